use Rattle.std.proofs.Common.{rules, ◌≡◌, ◌++◌, ◌∷◌, []}
use Rattle.tm_seat.proofs.Queues.{gathers-next}
use Rattle.tm_seat.proofs.rows.gather.Goals as goal

pub loop-before-preserved : goal.loop-before-preserved
loop-before-preserved c =
    let pushed : c.push.new.self.items ≡ c.loop-before.rows.items ++ c.in-Some.row ∷ [] = search rules in
    rw pushed (gathers-next c.args.queues.items c.loop-before.before c.loop-before.queues.items c.next_row.new.queues.items c.loop-before.rows.items _ c.in-Some.row c.in-Some.ensures.number c.in-Some.ensures.first c.loop-before.invariant)
