use Rattle.std.proofs.Common.{◌≡◌, map}
use Rattle.tm_line.proofs.permissions.pieces_of.Given as goal

abbrev pub invariant-loop-piece : goal.invariant-loop-piece
invariant-loop-piece l = l.made.items ≡ map (λ x. x.now) l.yielded
