use Rattle.std.proofs.Common.{◌≡◌, ◌≤◌, take}
use Rattle.tm_rerun.specs.Summary.{learned_count}
use Rattle.tm_rerun.proofs.summary.learned_count.Given as goal

abbrev pub invariant-loop-step : goal.invariant-loop-step
invariant-loop-step l = (l.count ≡ learned_count (take l.step-index l.steps)) × (l.count ≤ l.step-index)
