use Rattle.std.specs.Prelude.{vec_len}
use Rattle.tm_beside.proofs.together.+run_all.Given as goal

abbrev pub decreases-run_all : goal.decreases-run_all
decreases-run_all g l = vec_len l.list
