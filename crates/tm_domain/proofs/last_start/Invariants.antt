use Rattle.std.proofs.Common.{◌≡◌, ℕ, ◌<◌, ◌≤◌, ◌==◌, false, length, get_or}
use Rattle.tm_domain.proofs.last_start.Given as goal

-- no space stands here or later
abbrev pub invariant-loop-start : goal.invariant-loop-start
invariant-loop-start l = (l.start ≤ length l.text) × ((k : ℕ) → l.start ≤ k → k < length l.text → (get_or l.text k 0 == 32) ≡ false)

abbrev pub decreases-loop-start : goal.decreases-loop-start
decreases-loop-start l = l.start
