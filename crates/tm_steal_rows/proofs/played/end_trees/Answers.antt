use Rattle.std.proofs.Common.{rules, ◌≡◌, ◌++◌, ◌∷◌, ◌+◌, ◌∙◌, [], refl}
use Rattle.tm_steal_rows.specs.declared.played.Played.{Played}
use Rattle.tm_seat.proofs.Opening.{begins-further}
use Rattle.tm_steal_rows.proofs.Stealing.{ended-more}
use Rattle.tm_steal_rows.proofs.played.end_trees.Goals as goal

pub loop-before-preserved : goal.loop-before-preserved
loop-before-preserved g c =
    let a = c.args in
    let l = c.loop-before in
    let e = c.in_ok-number.ensures in
    let pushed : c.push.new.self.items ≡ c.loop-before.all.items ++ Played.End (c.loop-before.before + 1) c.in_ok-number.number ∷ [] = search rules in (
      e.opening ∙ l.invariant.0,
      begins-further (g.S.Seat.at a.seat.now) (g.S.Seat.at l.seat) (g.S.Seat.at c.end_tree.new.seat) l.invariant.1 e.grows,
      ended-more (g.S.Seat.opening a.seat.now) (g.S.Seat.opening l.seat) (g.S.Seat.at a.seat.now) (g.S.Seat.at l.seat) (g.S.Seat.at c.end_tree.new.seat) (g.S.Seat.own a.seat.now) (g.S.Seat.own l.seat) (g.S.Seat.own c.end_tree.new.seat) a.all.now.items l.all.items c.push.new.self.items l.before (l.before + 1) c.in_ok-number.number l.invariant.0 refl pushed e.steals l.invariant.2,
    )
