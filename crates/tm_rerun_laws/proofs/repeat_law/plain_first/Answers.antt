use Rattle.tm_rerun_laws.proofs.PlainFirst as law
use Rattle.tm_rerun_laws.proofs.repeat_law.plain_first.Goals as goal

pub returns : goal.returns
returns c = law.plain_first
