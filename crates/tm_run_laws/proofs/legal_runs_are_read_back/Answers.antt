use Rattle.tm_run_laws.proofs.Runs.{legal_written, legal_read, legal_alone}
use Rattle.tm_run_laws.proofs.legal_runs_are_read_back.Goals as goal

pub returns : goal.returns
returns c = record { written = legal_written; read = legal_read; alone = legal_alone }
