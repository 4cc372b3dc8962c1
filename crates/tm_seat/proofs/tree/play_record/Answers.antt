use Rattle.std.proofs.Common.{rules, ◌≡◌, ◌++◌, ◌∷◌, []}
use Rattle.tm_take.specs.Situations.{situations}
use Rattle.tm_seat.proofs.TreeEvents.{ids-ok, forks-ok, does-ok}
use Rattle.tm_seat.proofs.tree.play_record.Goals as goal

pub returns-in-Ids-clause-tree : goal.returns-in-Ids-clause-tree
returns-in-Ids-clause-tree g c =
    ids-ok c.set_ids.result (g.S.Seat.opening c.args.seat.now) (g.S.Seat.at c.args.seat.now) (g.S.Seat.own c.args.seat.now) (situations c.args.known.now) (situations c.set_ids.new.self) c.args.item c.in-Ids.pid c.in-Ids.ids c.args.takes.now.items c.in-Ids.is c.set_ids.ensures

pub returns-in-Fork-clause-tree : goal.returns-in-Fork-clause-tree
returns-in-Fork-clause-tree g c =
    forks-ok c.fork.result (g.S.Seat.opening c.args.seat.now) (g.S.Seat.at c.args.seat.now) (g.S.Seat.own c.args.seat.now) (situations c.args.known.now) (situations c.fork.new.self) c.args.item c.in-Fork.pid c.in-Fork.child c.args.takes.now.items c.in-Fork.is c.fork.ensures

pub returns-in_ok-push-in-Do-clause-tree : goal.returns-in_ok-push-in-Do-clause-tree
returns-in_ok-push-in-Do-clause-tree g c =
    let pushed : c.push.new.self.items ≡ c.args.takes.now.items ++ c.in_ok-take-in-Do.take ∷ [] = search rules in
    does-ok (g.S.Seat.opening c.args.seat.now) (g.S.Seat.opening c.begin.new.self) (g.S.Seat.at c.args.seat.now) (g.S.Seat.at c.begin.new.self) (g.S.Seat.at c.next_take.new.seat) (g.S.Seat.own c.args.seat.now) (g.S.Seat.own c.begin.new.self) (g.S.Seat.own c.next_take.new.seat) (situations c.args.known.now) (situations c.next_take.new.known) c.args.item c.in-Do.pid c.in-Do.request c.args.takes.now.items c.push.new.self.items c.in_ok-take-in-Do.take
    c.in-Do.is c.begin.ensures.opening c.begin.ensures.at c.begin.ensures.own pushed c.in_ok-take-in-Do.ensures.tree
