use Rattle.std.specs.Prelude.{◌≡◌, length}
use Rattle.tm_take.specs.Situations.{situations}
use Rattle.tm_seat.specs.Playing.{IsPlayingTree}
use Rattle.tm_seat.proofs.tree.play_records.Given as goal

abbrev pub invariant-loop-item : goal.invariant-loop-item
invariant-loop-item g l =
    (g.S.Seat.opening l.seat ≡ g.S.Seat.opening l.fn.seat)
    × IsPlayingTree (g.S.Seat.opening l.fn.seat) (record { records = l.fn.records; home = l.fn.home; known = g.S.Seat.at l.fn.seat; before = g.S.Seat.own l.fn.seat }) (g.S.Seat.at l.seat) (g.S.Seat.own l.seat) (situations l.known) l.lines l.takes.items

-- the records that are left
abbrev pub decreases-loop-item : goal.decreases-loop-item
decreases-loop-item g l = length l.lines
