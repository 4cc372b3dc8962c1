use Rattle.tm_rerun_laws.proofs.Learned as law
use Rattle.tm_rerun_laws.proofs.repeat_law.learned_runs_repeat.Goals as goal

pub returns : goal.returns
returns c = law.learned_runs_repeat
