use Rattle.std.proofs.Common.{◌≡◌}
use Rattle.tm_replay.specs.SeatSeats.{Begins}
use Rattle.tm_steal.specs.Boards.{GoesOn}
use Rattle.tm_steal.proofs.thief.play_all.Given as goal

abbrev pub invariant-loop : goal.invariant-loop
invariant-loop g l =
    (g.S.Seat.opening l.seat ≡ g.S.Seat.opening l.fn.seat)
    × Begins (g.S.Seat.at l.fn.seat) (g.S.Seat.at l.seat)
    × GoesOn (g.S.Seat.opening l.fn.seat) l.fn.board.trace.now (g.S.Seat.at l.fn.seat) (g.S.Seat.own l.fn.seat) l.fn.played.items
    (g.S.Seat.at l.seat) (g.S.Seat.own l.seat) l.played.items
