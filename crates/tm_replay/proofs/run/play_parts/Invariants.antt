use Rattle.tm_publish.specs.Boards.{blank_name, blank_parts, blank_history}
use Rattle.tm_replay.proofs.run.play_parts.Given as goal

-- the ledger and the history that were just made
abbrev pub ghosts-play_as-L-Ledger : goal.ghosts-play_as-L-Ledger
ghosts-play_as-L-Ledger g a = record { name = blank_name a.blank; parts = blank_parts a.blank }

abbrev pub ghosts-play_as-L-Named : goal.ghosts-play_as-L-Named
ghosts-play_as-L-Named g a = record { history = blank_history a.blank }
