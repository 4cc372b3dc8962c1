use Rattle.tm_publish.specs.Boards.{blank_name, blank_parts, blank_history}
use Rattle.tm_tests_machine.proofs.shared.one_answers_and_the_other_waits_for_it.Given as goal

-- the ledger and the history that were just made
abbrev pub ghosts-answered-L-Ledger : goal.ghosts-answered-L-Ledger
ghosts-answered-L-Ledger g a = record { name = blank_name a.blank; parts = blank_parts a.blank }

abbrev pub ghosts-answered-L-Named : goal.ghosts-answered-L-Named
ghosts-answered-L-Named g a = record { history = blank_history a.blank }
