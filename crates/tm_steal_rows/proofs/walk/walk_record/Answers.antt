use Rattle.std.proofs.Common.{rules, ◌≡◌, ◌++◌, ◌∷◌, []}
use Rattle.std.specs.Prelude.{flat_map}
use Rattle.tm_take.specs.Situations.{situations}
use Rattle.tm_steal_rows.proofs.Walking.{ids-ok, forks-ok, does-ok}
use Rattle.tm_steal_rows.proofs.walk.walk_record.Goals as goal

pub returns-in-Ids : goal.returns-in-Ids
returns-in-Ids c =
    ids-ok c.set_ids.result c.args.place.tree c.args.place.item (situations c.args.known.now) (situations c.set_ids.new.self) c.args.item.now c.in-Ids.pid c.in-Ids.ids c.args.takes.now.items (flat_map (λ queue. queue.items) c.args.queues.now.items) c.in-Ids.is c.set_ids.ensures

pub returns-in-Fork : goal.returns-in-Fork
returns-in-Fork c =
    forks-ok c.fork.result c.args.place.tree c.args.place.item (situations c.args.known.now) (situations c.fork.new.self) c.args.item.now c.in-Fork.pid c.in-Fork.child c.args.takes.now.items (flat_map (λ queue. queue.items) c.args.queues.now.items) c.in-Fork.is c.fork.ensures

pub returns-in_ok-push-in-Do : goal.returns-in_ok-push-in-Do
returns-in_ok-push-in-Do c =
    let pushed : c.push.new.self.items ≡ c.args.takes.now.items ++ c.in_ok-take-in-Do.take ∷ [] = search rules in
    does-ok c.args.place (situations c.args.known.now) (situations c.next_take.new.known) c.args.item.now c.in-Do.pid c.in-Do.field-1 c.args.takes.now.items c.push.new.self.items (flat_map (λ queue. queue.items) c.args.queues.now.items) (flat_map (λ queue. queue.items) c.next_take.new.queues.items) c.in_ok-take-in-Do.take
    c.in-Do.is pushed c.in_ok-take-in-Do.ensures
