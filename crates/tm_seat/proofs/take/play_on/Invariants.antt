use Rattle.std.specs.Prelude.{◌≡◌}
use Rattle.tm_seat.specs.Seats.{Begins}
use Rattle.tm_seat.specs.Playing.{PlaysOn}
use Rattle.tm_seat.proofs.take.play_on.Given as goal

abbrev pub invariant-loop : goal.invariant-loop
invariant-loop g l =
    (g.S.Seat.opening l.seat ≡ g.S.Seat.opening l.fn.seat)
    × Begins (g.S.Seat.at l.fn.seat) (g.S.Seat.at l.seat)
    × PlaysOn (g.S.Seat.opening l.fn.seat) (g.S.Seat.at l.fn.seat) (g.S.Seat.own l.fn.seat) l.fn.attempt (g.S.Seat.at l.seat) (g.S.Seat.own l.seat) l.attempt
