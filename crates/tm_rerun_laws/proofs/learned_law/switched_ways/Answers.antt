use Rattle.tm_rerun_laws.proofs.Switched as law
use Rattle.tm_rerun_laws.proofs.learned_law.switched_ways.Goals as goal

pub returns : goal.returns
returns c = record { lines = law.lines; candidates = law.candidates; decisions = law.decisions; enters = law.enters; executes = law.executes }
