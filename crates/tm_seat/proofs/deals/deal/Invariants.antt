use Rattle.tm_seat.proofs.Hands.{AreDealt}
use Rattle.tm_seat.proofs.deals.deal.Given as goal

abbrev pub invariant-loop-tree : goal.invariant-loop-tree
invariant-loop-tree l = AreDealt l.fn.workers l.yielded l.hands.items
