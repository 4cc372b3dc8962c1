use Rattle.std.proofs.Common.{◌≡◌, ℕ, ◌||◌}
use Rattle.tm_core.specs.Resting.{is_awake, is_tree}
use Rattle.tm_core.proofs.awake.Awake.wake_all.Given as goal

abbrev pub invariant-loop-place : goal.invariant-loop-place
invariant-loop-place l = ((t : ℕ) → is_awake l.self t ≡ (is_awake l.initial.self t || is_tree l.place t)) × (l.self.waiting ≡ l.initial.self.waiting)
