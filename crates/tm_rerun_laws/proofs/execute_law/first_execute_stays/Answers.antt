use Rattle.tm_rerun_laws.proofs.CleanRuns.{clean_run_grows}
use Rattle.tm_rerun_laws.proofs.PlainRuns.{plain_stays}
use Rattle.tm_rerun_laws.proofs.ExecuteLaws.{first_execute_stays}
use Rattle.tm_rerun_laws.proofs.execute_law.first_execute_stays.Goals as goal

pub returns : goal.returns
returns c = first_execute_stays clean_run_grows plain_stays
