use Rattle.std.proofs.Common.{◌≡◌, map}
use Rattle.tm_joint.specs.Joint.{takes_in}
use Rattle.tm_seat.specs.Rows.{row_of}
use Rattle.tm_replay.proofs.run.takes_of.Given as goal

abbrev pub invariant-loop-row : goal.invariant-loop-row
invariant-loop-row l = l.takes.items ≡ takes_in (map row_of l.yielded)
