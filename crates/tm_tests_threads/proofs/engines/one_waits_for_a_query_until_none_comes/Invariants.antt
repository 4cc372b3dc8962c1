use Rattle.tm_publish.specs.Boards.{blank_name, blank_parts, blank_history}
use Rattle.tm_tests_threads.proofs.engines.one_waits_for_a_query_until_none_comes.Given as goal

-- the ledger and the history that were just made
abbrev pub ghosts-queried-L-Ledger : goal.ghosts-queried-L-Ledger
ghosts-queried-L-Ledger g a = record { name = blank_name a.blank; parts = blank_parts a.blank }

abbrev pub ghosts-queried-L-Named : goal.ghosts-queried-L-Named
ghosts-queried-L-Named g a = record { history = blank_history a.blank }
