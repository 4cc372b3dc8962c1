use Rattle.std.specs.Prelude.{◌≡◌}
use Rattle.tm_seat.specs.Editing.{IsEditing}
use Rattle.tm_seat.proofs.editor.play_editor.Given as goal

abbrev pub invariant-loop-file : goal.invariant-loop-file
invariant-loop-file g l =
    (g.S.Seat.opening l.seat ≡ g.S.Seat.opening l.fn.seat)
    × IsEditing (g.S.Seat.opening l.fn.seat) (record { known = g.S.Seat.at l.fn.seat; before = g.S.Seat.own l.fn.seat }) l.fn.editor (g.S.Seat.at l.seat) (g.S.Seat.own l.seat) l.yielded
