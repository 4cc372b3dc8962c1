use Rattle.tm_publish.specs.Boards.{blank_name, blank_parts, blank_history}
use Rattle.tm_tests_threads.proofs.engines.a_stop_wakes_who_waits_for_a_query.Given as goal

-- the ledger and the history that were just made
abbrev pub ghosts-stopped_unasked-L-Ledger : goal.ghosts-stopped_unasked-L-Ledger
ghosts-stopped_unasked-L-Ledger g a = record { name = blank_name a.blank; parts = blank_parts a.blank }

abbrev pub ghosts-stopped_unasked-L-Named : goal.ghosts-stopped_unasked-L-Named
ghosts-stopped_unasked-L-Named g a = record { history = blank_history a.blank }
