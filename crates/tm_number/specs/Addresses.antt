-- what a range of addresses holds
use Rattle.std.specs.Prelude.{Bool, false, ◌&&◌, nat_le}
use Rattle.tm_number.specs.declared.Addr.{Addr}
use Rattle.tm_number.specs.declared.AddrRange.{AddrRange}

-- in order, within one family
abbrev pub addr_le : Addr → Addr → Bool
addr_le (Addr.V4 a) (Addr.V4 b) = nat_le a b
addr_le (Addr.V6 a) (Addr.V6 b) = nat_le a b
addr_le _ _ = false

-- the address is between the ends
abbrev pub addr_range_has : AddrRange → Addr → Bool
addr_range_has range a = addr_le range.low a && addr_le a range.high
