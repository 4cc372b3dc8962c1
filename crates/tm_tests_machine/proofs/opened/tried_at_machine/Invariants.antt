use Rattle.tm_publish.specs.Boards.{blank_name, blank_parts, blank_history}
use Rattle.tm_tests_machine.proofs.opened.tried_at_machine.Given as goal

-- the ledger and the history that were just made
abbrev pub ghosts-tried-L-Ledger : goal.ghosts-tried-L-Ledger
ghosts-tried-L-Ledger g a = record { name = blank_name a.blank; parts = blank_parts a.blank }

abbrev pub ghosts-tried-L-Named : goal.ghosts-tried-L-Named
ghosts-tried-L-Named g a = record { history = blank_history a.blank }
