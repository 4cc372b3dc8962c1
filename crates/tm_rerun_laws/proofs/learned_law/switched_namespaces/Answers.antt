use Rattle.tm_rerun_laws.proofs.Switched as law
use Rattle.tm_rerun_laws.proofs.learned_law.switched_namespaces.Goals as goal

pub returns : goal.returns
returns c = record { namespaces = law.namespaces; entries = law.entries; firsts = law.firsts }
