use Rattle.tm_publish.specs.Boards.{blank_name, blank_parts, blank_history}
use Rattle.tm_tests_threads.proofs.engines.a_read_stands_within_a_read.Given as goal

-- the ledger and the history that were just made
abbrev pub ghosts-within-L-Ledger : goal.ghosts-within-L-Ledger
ghosts-within-L-Ledger g a = record { name = blank_name a.blank; parts = blank_parts a.blank }

abbrev pub ghosts-within-L-Named : goal.ghosts-within-L-Named
ghosts-within-L-Named g a = record { history = blank_history a.blank }
