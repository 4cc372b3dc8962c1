use Rattle.tm_seat.proofs.Queues.{Gathering}
use Rattle.tm_seat.proofs.rows.gather.Given as goal

abbrev pub invariant-loop-before : goal.invariant-loop-before
invariant-loop-before l = Gathering l.fn.queues.items l.before l.queues.items l.rows.items
