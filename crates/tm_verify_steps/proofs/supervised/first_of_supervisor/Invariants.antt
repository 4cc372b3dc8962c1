use Rattle.std.proofs.Common.{◌≡◌, ◌+◌, ◌≤◌, not, drop}
use Rattle.tm_rules.specs.Types.{Reply, Step}
use Rattle.tm_legal.specs.Prelude.{is_of_supervisor}
use Rattle.tm_verify_laws.specs.First.{first_failing}
use Rattle.tm_verify_steps.proofs.supervised.first_of_supervisor.Given as goal

-- from here on it finds what the whole finds
abbrev pub invariant-loop-pair : goal.invariant-loop-pair
invariant-loop-pair l =
    (first_failing (λ (pair : Step × Reply). not (is_of_supervisor pair.0)) l.number (drop l.pair-index l.steps)
    ≡ first_failing (λ (pair : Step × Reply). not (is_of_supervisor pair.0)) 1 l.steps)
    × (l.number ≤ l.pair-index + 1)
