use Rattle.tm_rerun_laws.proofs.CleanRuns.{clean_run_grows}
use Rattle.tm_rerun_laws.proofs.LearnedLines.{learned_lines_grant}
use Rattle.tm_rerun_laws.proofs.learned_law.learned_lines_grant.Goals as goal

pub returns : goal.returns
returns c = learned_lines_grant clean_run_grows
