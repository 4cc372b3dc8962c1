use Rattle.tm_rerun_laws.proofs.DomainsLive as law
use Rattle.tm_rerun_laws.proofs.growth_law.domains_stay.Goals as goal

pub returns : goal.returns
returns c = law.domains_stay
