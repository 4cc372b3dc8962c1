use Rattle.std.proofs.Common.{◌≡◌, ◌&&◌, ℕ, List, drop}
use Rattle.std.specs.List.{list_any}
use Rattle.tm_rules.specs.Types.{AddrRange}
use Rattle.tm_rules.specs.Addresses.{addr_range_has}
use Rattle.tm_pattern.specs.Texts.{texts_equal}
use Rattle.tm_union.proofs.addr_group_has.Given as goal

-- some range from here on is some range of all
abbrev pub invariant-loop-member : goal.invariant-loop-member
invariant-loop-member l =
    list_any (λ (member : List ℕ × AddrRange). texts_equal member.0 l.group && addr_range_has member.1 l.addr) (drop l.member-index l.members)
    ≡ list_any (λ (member : List ℕ × AddrRange). texts_equal member.0 l.group && addr_range_has member.1 l.addr) l.members
