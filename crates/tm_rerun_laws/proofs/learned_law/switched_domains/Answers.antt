use Rattle.tm_rerun_laws.proofs.Switched as law
use Rattle.tm_rerun_laws.proofs.learned_law.switched_domains.Goals as goal

pub returns : goal.returns
returns c = record { policies = law.policies; domains = law.domains; live = law.live_domains }
