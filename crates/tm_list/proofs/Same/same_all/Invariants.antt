use Rattle.std.proofs.Common.{◌≡◌, take, length}
use Rattle.tm_list.proofs.Same.same_all.Given as goal

abbrev pub invariant-loop-one : goal.invariant-loop-one
invariant-loop-one g l = take (length l.yielded) l.left ≡ take (length l.yielded) l.right
