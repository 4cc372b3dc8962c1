use Rattle.std.proofs.Common.{◌≡◌, ◌&&◌, ℕ, List, drop}
use Rattle.std.specs.List.{list_any}
use Rattle.tm_rules.specs.Types.{Range}
use Rattle.tm_rules.specs.Ranges.{range_has}
use Rattle.tm_pattern.specs.Texts.{texts_equal}
use Rattle.tm_union.proofs.number_group_has.Given as goal

-- some range from here on is some range of all
abbrev pub invariant-loop-member : goal.invariant-loop-member
invariant-loop-member l =
    list_any (λ (member : List ℕ × Range). texts_equal member.0 l.group && range_has member.1 l.value) (drop l.member-index l.members)
    ≡ list_any (λ (member : List ℕ × Range). texts_equal member.0 l.group && range_has member.1 l.value) l.members
