use Rattle.std.proofs.Common.{◌≡◌, drop, not}
use Rattle.std.specs.Prelude.{is_some}
use Rattle.std.specs.List.{position_from}
use Rattle.tm_rules.specs.Types.{Tree}
use Rattle.tm_rules.specs.Prelude.{live_domain}
use Rattle.tm_call_input.proofs.reading.homeless.Given as goal

-- from here on it finds what the whole finds
abbrev pub invariant-loop-place : goal.invariant-loop-place
invariant-loop-place l =
    position_from (λ (tree : Tree). not (is_some (live_domain l.policy tree.start))) l.place (drop l.place l.trees)
    ≡ position_from (λ (tree : Tree). not (is_some (live_domain l.policy tree.start))) 0 l.trees
