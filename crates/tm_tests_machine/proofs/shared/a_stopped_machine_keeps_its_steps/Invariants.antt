use Rattle.tm_publish.specs.Boards.{blank_name, blank_parts, blank_history}
use Rattle.tm_tests_machine.proofs.shared.a_stopped_machine_keeps_its_steps.Given as goal

-- the ledger and the history that were just made
abbrev pub ghosts-stopped-L-Ledger : goal.ghosts-stopped-L-Ledger
ghosts-stopped-L-Ledger g a = record { name = blank_name a.blank; parts = blank_parts a.blank }

abbrev pub ghosts-stopped-L-Named : goal.ghosts-stopped-L-Named
ghosts-stopped-L-Named g a = record { history = blank_history a.blank }
