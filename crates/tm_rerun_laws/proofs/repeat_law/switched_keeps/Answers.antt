use Rattle.tm_rerun_laws.proofs.Switched as law
use Rattle.tm_rerun_laws.proofs.repeat_law.switched_keeps.Goals as goal

pub returns : goal.returns
returns c = law.switched_keeps
