use Rattle.tm_rerun_laws.proofs.PlainRuns as law
use Rattle.tm_rerun_laws.proofs.growth_law.policies_stay_plain.Goals as goal

pub returns : goal.returns
returns c = law.plain_stays
