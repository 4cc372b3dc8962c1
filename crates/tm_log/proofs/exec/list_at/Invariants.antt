use Rattle.std.proofs.Common.{◌≡◌, [], length}
use Rattle.tm_log.specs.Execs.{list_at}
use Rattle.tm_log.proofs.exec.list_at.Given as goal

-- from here on it gives what the whole gives
abbrev pub invariant-loop-rest : goal.invariant-loop-rest
invariant-loop-rest l = list_at l.list l.rest ≡ list_at [] l.words

abbrev pub decreases-loop-rest : goal.decreases-loop-rest
decreases-loop-rest l = length l.rest
