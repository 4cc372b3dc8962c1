use Rattle.std.proofs.Common.{◌≡◌, ◌-◌, ◌++◌, drop, length}
use Rattle.std.specs.List.{list_all}
use Rattle.tm_run.specs.Steps.{steps_text}
use Rattle.tm_run.specs.Typed.{is_typed_step}
use Rattle.tm_run.proofs.steps.push_steps.Given as goal

-- what is written, and behind it the lines of those that are left; and all are in range where those
-- are
abbrev pub invariant-loop-count : goal.invariant-loop-count
invariant-loop-count l =
    (l.out.items ++ steps_text l.count (drop l.count l.steps) ≡ l.initial.out.items ++ steps_text 0 l.steps) × (list_all is_typed_step (drop l.count l.steps) ≡ list_all is_typed_step l.steps)

abbrev pub decreases-loop-count : goal.decreases-loop-count
decreases-loop-count l = length l.steps - l.count
