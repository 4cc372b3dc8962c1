use Rattle.std.proofs.Common.{length}
use Rattle.tm_rows.proofs.reading.read_rows.Given as goal

abbrev pub decreases-loop-rest : goal.decreases-loop-rest
decreases-loop-rest l = length l.rest
