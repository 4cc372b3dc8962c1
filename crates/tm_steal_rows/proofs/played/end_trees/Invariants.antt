use Rattle.std.proofs.Common.{◌≡◌}
use Rattle.tm_seat.specs.Seats.{Begins}
use Rattle.tm_steal_rows.proofs.Stealing.{Ended}
use Rattle.tm_steal_rows.proofs.played.end_trees.Given as goal

abbrev pub invariant-loop-before : goal.invariant-loop-before
invariant-loop-before g l =
    (g.S.Seat.opening l.seat ≡ g.S.Seat.opening l.fn.seat)
    × Begins (g.S.Seat.at l.fn.seat) (g.S.Seat.at l.seat)
    × Ended (g.S.Seat.opening l.fn.seat) (g.S.Seat.at l.fn.seat) (g.S.Seat.own l.fn.seat) l.fn.all.items l.before (g.S.Seat.at l.seat) (g.S.Seat.own l.seat) l.all.items
