use Rattle.std.proofs.Common.{rules, ◌≡◌, ◌++◌, ◌∷◌, []}
use Rattle.tm_seat.proofs.WorkerEvents.{worker-plays}
use Rattle.tm_seat.proofs.worker.play_next.Goals as goal

pub returns-clause-works : goal.returns-clause-works
returns-clause-works g c =
    let pushed : c.push.new.self.items ≡ c.args.rows.now.items ++ c.in_ok-row.row ∷ [] = search rules in
    let e = c.in_ok-row.ensures in
    worker-plays (g.S.Seat.opening c.args.seat.now) c.args.supervised (g.S.Seat.at c.args.seat.now) (g.S.Seat.at c.play_tree.new.seat) (g.S.Seat.own c.args.seat.now) (g.S.Seat.own c.play_tree.new.seat) c.args.rows.now.items c.args.tree c.in_ok-row.row c.push.new.self.items pushed e.fitted e.grows e.number e.row e.own e.makers e.fresh c.requires.ready.home
