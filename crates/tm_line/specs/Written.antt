-- The values that a line can write: those that are read from some text.
use Rattle.std.specs.Prelude.{ℕ, ◌^◌, ◌==◌, nat_lt, nat_le, Bool, false, ◌&&◌, not, [], ◌∷◌, length}
use Rattle.std.specs.List.{list_all}
use Rattle.tm_word.specs.Prelude.{Text, Word, spelled_pattern}
use Rattle.tm_addr.specs.Addr.{Addr}
use Rattle.tm_addr.specs.AddrRange.{AddrRange}
use Rattle.tm_addr.specs.Range.{Range}
use Rattle.tm_addr.specs.Addresses.{addr_le}
use Rattle.tm_domain.specs.Grammar.{is_right}
use Rattle.tm_domain.specs.NameUnion.{NameUnion}
use Rattle.tm_domain.specs.NumberUnion.{NumberUnion}
use Rattle.tm_domain.specs.AddrUnion.{AddrUnion}
use Rattle.tm_line.specs.declared.permissions.Row.{Row}
use Rattle.tm_line.specs.Permissions.{names}

-- a group's name is a word of bytes, not empty
abbrev pub is_group : Word → Bool
is_group [] = false
is_group (b ∷ word) = list_all (λ c. nat_lt c 256) (b ∷ word)

-- a text that isn't empty and doesn't begin with `@`
abbrev pub begins_name : Text → Bool
begins_name [] = false
begins_name (b ∷ text) = not (b == 64)

-- a group, or a pattern in the grammar whose text isn't empty and doesn't begin with `@`
unfoldable pub is_name : NameUnion → Bool
is_name (NameUnion.One pattern_) = is_right pattern_ && begins_name (spelled_pattern pattern_)
is_name (NameUnion.Group group) = is_group group

-- both ends below 2^64 and in order
abbrev pub is_range : Range → Bool
is_range r =
    nat_lt r.low.value (2 ^ 64) && nat_lt r.high.value (2 ^ 64) && nat_le r.low.value r.high.value

-- a group, or a range of numbers
unfoldable pub is_number : NumberUnion → Bool
is_number (NumberUnion.One range) = is_range range
is_number (NumberUnion.Group group) = is_group group

-- the value fits its family
abbrev pub is_addr : Addr → Bool
is_addr (Addr.V4 a) = nat_lt a (2 ^ 32)
is_addr (Addr.V6 a) = nat_lt a (2 ^ 128)

-- both ends fit, of one family and in order
abbrev pub is_addr_range : AddrRange → Bool
is_addr_range r = is_addr r.low && is_addr r.high && addr_le r.low r.high

-- a group, or a range of addresses
unfoldable pub is_address : AddrUnion → Bool
is_address (AddrUnion.One range) = is_addr_range range
is_address (AddrUnion.Group group) = is_group group

-- one permission of the row or more, and no bit past them
abbrev pub is_set : Row → ℕ → Bool
is_set acl_row bits = nat_lt 0 bits && nat_lt bits (2 ^ length (names acl_row))
