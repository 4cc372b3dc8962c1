use Rattle.std.proofs.Common.{◌≡◌, []}
use Rattle.tm_replay.specs.SeatSeats.{Begins}
use Rattle.tm_steal.specs.Boards.{GoesOnWith}
use Rattle.tm_steal.proofs.thief.play_records.Given as goal

abbrev pub invariant-loop-line : goal.invariant-loop-line
invariant-loop-line g l =
    (g.S.Seat.opening l.seat ≡ g.S.Seat.opening l.fn.seat)
    × Begins (g.S.Seat.at l.fn.seat) (g.S.Seat.at l.seat)
    × GoesOnWith (g.S.Seat.opening l.fn.seat) l.fn.board.trace.now l.job.now.process.pid (g.S.Seat.at l.fn.seat) (g.S.Seat.own l.fn.seat) []
    (g.S.Seat.at l.seat) (g.S.Seat.own l.seat) l.takes.items
    × (l.now.process.pid ≡ l.job.now.process.pid)
