use Rattle.tm_seat.proofs.TreeEvents.{end-fits}
use Rattle.tm_seat.proofs.tree.end_tree.Goals as goal

pub settle-requires : goal.settle-requires
settle-requires g c = record { fits = end-fits (g.S.Seat.opening c.args.seat.now) (g.S.Seat.at c.args.seat.now) c.args.number c.requires.above c.requires.inside }
