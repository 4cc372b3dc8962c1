use Rattle.tm_rerun_laws.proofs.CleanRuns as law
use Rattle.tm_rerun_laws.proofs.growth_law.clean_runs_grow.Goals as goal

pub returns : goal.returns
returns c = law.clean_run_grows
