use Rattle.std.proofs.Common.{◌≡◌, length}
use Rattle.tm_text.specs.ProfileText.{comes_before}
use Rattle.tm_text.proofs.profiles.comes_before.Given as goal

-- what is left decides as the whole does
abbrev pub invariant-loop-left : goal.invariant-loop-left
invariant-loop-left l = comes_before l.left l.right ≡ comes_before l.initial.left l.initial.right

abbrev pub decreases-loop-left : goal.decreases-loop-left
decreases-loop-left l = length l.left
