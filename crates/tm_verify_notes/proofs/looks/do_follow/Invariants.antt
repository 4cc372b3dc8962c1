use Rattle.std.proofs.Common.{◌≡◌, ◌+◌, ◌≤◌, length}
use Rattle.tm_verify_laws.specs.Looks.{do_follow}
use Rattle.tm_verify_notes.proofs.looks.do_follow.Given as goal

-- from here on they follow where all do
abbrev pub invariant-loop-look : goal.invariant-loop-look
invariant-loop-look l = (do_follow l.steps l.retry l.rest ≡ do_follow l.steps 0 l.looks) × (l.retry + length l.rest ≤ length l.looks)

abbrev pub decreases-loop-look : goal.decreases-loop-look
decreases-loop-look l = length l.rest
