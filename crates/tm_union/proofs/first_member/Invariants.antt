use Rattle.std.proofs.Common.{◌≡◌, ◌&&◌, ℕ, List, drop}
use Rattle.std.specs.List.{position_from}
use Rattle.tm_rules.specs.Types.{Component}
use Rattle.tm_pattern.specs.Matching.{matches}
use Rattle.tm_pattern.specs.Texts.{texts_equal}
use Rattle.tm_union.proofs.first_member.Given as goal

-- the first one from here on is the first one of all
abbrev pub invariant-loop-place : goal.invariant-loop-place
invariant-loop-place l =
    position_from (λ (member : List ℕ × List Component). texts_equal member.0 l.group && matches member.1 l.name) l.place (drop l.place l.members)
    ≡ position_from (λ (member : List ℕ × List Component). texts_equal member.0 l.group && matches member.1 l.name) 0 l.members
