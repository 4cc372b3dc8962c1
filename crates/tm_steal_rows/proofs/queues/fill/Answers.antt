use Rattle.std.proofs.Common.{rules, ◌≡◌, ◌<◌, length, get_or, []}
use Rattle.std.specs.Prelude.{Some, slice_get}
use Rattle.tm_steal_rows.proofs.Same.{get-at}
use Rattle.tm_steal_rows.proofs.Laying.{laid-one}
use Rattle.tm_steal_rows.proofs.queues.fill.Goals as goal

pub returns-else-not-none_left : goal.returns-else-not-none_left
returns-else-not-none_left c =
    let within : c.args.process.place < length c.args.queues.now.items = search rules in
    let is : c.in-Some.queue.now ≡ get_or c.args.queues.now.items c.args.process.place c.in-Some.queue.now = search rules in
    let at : slice_get c.args.queues.now.items c.args.process.place ≡ Some c.in-Some.queue.now = get-at c.args.queues.now.items c.args.process.place c.in-Some.queue.now within is in
    let empty : c.in-Some.queue.now.items ≡ [] = search rules in
    laid-one (λ queue. queue.items) c.args.queues.now.items c.args.process.place c.in-Some.queue.now c.from.result c.args.process.takes.items at empty c.from.ensures.0
