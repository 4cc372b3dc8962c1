use Rattle.std.proofs.Common.{◌≡◌, length}
use Rattle.tm_line.specs.Permissions.{finishes}
use Rattle.tm_line.proofs.permissions.finishes.Given as goal

abbrev pub invariant-loop-rest : goal.invariant-loop-rest
invariant-loop-rest l = finishes l.acl_row l.rest ≡ finishes l.acl_row l.pieces

abbrev pub decreases-loop-rest : goal.decreases-loop-rest
decreases-loop-rest l = length l.rest
