use Rattle.std.proofs.Common.{length}
use Rattle.tm_rows.proofs.reading.words_of.Given as goal

abbrev pub decreases-loop-rest : goal.decreases-loop-rest
decreases-loop-rest l = length l.rest
