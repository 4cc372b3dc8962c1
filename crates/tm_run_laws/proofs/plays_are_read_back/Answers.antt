use Rattle.tm_run_laws.proofs.Runs.{play_written, play_read}
use Rattle.tm_run_laws.proofs.plays_are_read_back.Goals as goal

pub returns : goal.returns
returns c = record { written = play_written; read = play_read }
