use Rattle.tm_publish.specs.Boards.{blank_name, blank_parts, blank_history}
use Rattle.tm_tests_threads.proofs.boards.a_board_publishes_what_its_passes_make.Given as goal

-- the ledger and the history that were just made
abbrev pub ghosts-published-L-Ledger : goal.ghosts-published-L-Ledger
ghosts-published-L-Ledger g a = record { name = blank_name a.blank; parts = blank_parts a.blank }

abbrev pub ghosts-published-L-Named : goal.ghosts-published-L-Named
ghosts-published-L-Named g a = record { history = blank_history a.blank }
