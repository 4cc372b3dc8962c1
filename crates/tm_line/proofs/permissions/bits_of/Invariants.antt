use Rattle.std.proofs.Common.{◌≡◌, drop}
use Rattle.tm_line.specs.Permissions.{bits_of}
use Rattle.tm_line.proofs.permissions.bits_of.Given as goal

abbrev pub invariant-loop-piece : goal.invariant-loop-piece
invariant-loop-piece l = bits_of l.bits l.acl_row (drop l.piece-index l.pieces) ≡ bits_of 0 l.acl_row l.pieces
