use Rattle.std.specs.Prelude.{◌≡◌, length}
use Rattle.std.specs.List.{AllByRecursion}
use Rattle.tm_seat.specs.Rows.{IsReady}
use Rattle.tm_seat.proofs.WorkerEvents.{Worked}
use Rattle.tm_seat.proofs.worker.play_trees.Given as goal

abbrev pub invariant-loop-tree : goal.invariant-loop-tree
invariant-loop-tree g l =
    (g.S.Seat.opening l.seat ≡ g.S.Seat.opening l.fn.seat)
    × AllByRecursion (IsReady (g.S.Seat.opening l.fn.seat)) l.left.items
    × Worked (g.S.Seat.opening l.fn.seat) l.fn.supervised (record { known = g.S.Seat.at l.fn.seat; before = g.S.Seat.own l.fn.seat }) (g.S.Seat.at l.seat) (g.S.Seat.own l.seat) l.fn.trees.items l.left.items l.rows.items

-- the trees that are left
abbrev pub decreases-loop-tree : goal.decreases-loop-tree
decreases-loop-tree g l = length l.left.items
