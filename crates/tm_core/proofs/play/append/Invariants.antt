use Rattle.std.proofs.Common.{◌≡◌, ◌++◌}
use Rattle.tm_core.proofs.play.append.Given as goal

abbrev pub invariant-loop-take : goal.invariant-loop-take
invariant-loop-take l = l.out ≡ l.initial.out ++ l.yielded
