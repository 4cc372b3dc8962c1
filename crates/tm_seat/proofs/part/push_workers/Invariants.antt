use Rattle.std.proofs.Common.{◌≡◌, ◌++◌, map}
use Rattle.tm_seat.specs.declared.part.Part.{Part}
use Rattle.tm_seat.proofs.part.push_workers.Given as goal

abbrev pub invariant-loop-hand : goal.invariant-loop-hand
invariant-loop-hand g l = l.parts.items ≡ l.initial.parts.items ++ map Part.Worker l.yielded
