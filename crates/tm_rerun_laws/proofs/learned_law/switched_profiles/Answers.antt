use Rattle.tm_rerun_laws.proofs.Switched as law
use Rattle.tm_rerun_laws.proofs.learned_law.switched_profiles.Goals as goal

pub returns : goal.returns
returns c = law.profiles
