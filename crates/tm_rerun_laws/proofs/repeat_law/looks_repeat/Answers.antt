use Rattle.tm_rerun_laws.proofs.Learned as law
use Rattle.tm_rerun_laws.proofs.repeat_law.looks_repeat.Goals as goal

pub returns : goal.returns
returns c = law.looks_repeat
