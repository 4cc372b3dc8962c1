use Rattle.tm_seat.proofs.TreeEvents.{tree-ended}
use Rattle.tm_seat.proofs.tree.play_tree.Goals as goal

pub returns-in-Ok-clause-row : goal.returns-in-Ok-clause-row
returns-in-Ok-clause-row g c =
    rw c.from_vec.ensures (tree-ended (g.S.Seat.opening c.args.seat.now) (g.S.Seat.opening c.play_records.new.seat) c.args.tree c.args.supervised (g.S.Seat.at c.args.seat.now) (g.S.Seat.at c.play_records.new.seat) (g.S.Seat.at c.end_tree.new.seat) (g.S.Seat.own c.args.seat.now) (g.S.Seat.own c.play_records.new.seat) (g.S.Seat.own c.end_tree.new.seat) c.in_ok-takes.takes.items c.in-Ok.end
    c.in_ok-takes.ensures.opening c.requires.ready.home c.in_ok-takes.ensures.played c.in_ok-takes.ensures.own c.in_ok-takes.ensures.makers c.in-Ok.ensures.ends).row_is

pub returns-in-Ok-clause-makers : goal.returns-in-Ok-clause-makers
returns-in-Ok-clause-makers g c =
    (tree-ended (g.S.Seat.opening c.args.seat.now) (g.S.Seat.opening c.play_records.new.seat) c.args.tree c.args.supervised (g.S.Seat.at c.args.seat.now) (g.S.Seat.at c.play_records.new.seat) (g.S.Seat.at c.end_tree.new.seat) (g.S.Seat.own c.args.seat.now) (g.S.Seat.own c.play_records.new.seat) (g.S.Seat.own c.end_tree.new.seat) c.in_ok-takes.takes.items c.in-Ok.end
    c.in_ok-takes.ensures.opening c.requires.ready.home c.in_ok-takes.ensures.played c.in_ok-takes.ensures.own c.in_ok-takes.ensures.makers c.in-Ok.ensures.ends).makers
