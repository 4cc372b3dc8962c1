use Rattle.tm_verify_laws.proofs.BrokenLaws.{not_legal, broken_once}
use Rattle.tm_verify_laws.proofs.laws.broken_runs.Goals as goal

pub returns : goal.returns
returns c = record { illegal = not_legal; once = broken_once }
