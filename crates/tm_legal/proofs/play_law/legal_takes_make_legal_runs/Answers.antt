use Rattle.tm_legal.proofs.Legality.{legal-of}
use Rattle.tm_legal.proofs.play_law.legal_takes_make_legal_runs.Goals as goal

pub returns : goal.returns
returns c = legal-of
