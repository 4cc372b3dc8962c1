use Rattle.std.proofs.Common.{rules, ◌≡◌, ◌<◌, length, get_or}
use Rattle.std.specs.Prelude.{Some, slice_get}
use Rattle.tm_steal_rows.proofs.Same.{get-at}
use Rattle.tm_steal_rows.proofs.Laying.{pops-one}
use Rattle.tm_steal_rows.proofs.queues.next_of.Goals as goal

pub returns-in-Some : goal.returns-in-Some
returns-in-Some c =
    let within : c.args.process < length c.args.queues.now.items = search rules in
    let is : c.in-Some.queue.now ≡ get_or c.args.queues.now.items c.args.process c.in-Some.queue.now = search rules in
    let at : slice_get c.args.queues.now.items c.args.process ≡ Some c.in-Some.queue.now = get-at c.args.queues.now.items c.args.process c.in-Some.queue.now within is in
    pops-one (λ queue. queue.items) c.args.queues.now.items c.args.process c.in-Some.queue.now c.pop_front.new.self c.pop_front.result at c.pop_front.ensures.items
