use Rattle.std.proofs.Common.{◌++◌, ◌∷◌, [], append-nil, sym}
use Rattle.std.specs.Prelude.{flat_map}
use Rattle.tm_steal_rows.specs.Playing.{events_of}
use Rattle.tm_steal_rows.specs.Gathering.{all_given, takes_of, ends_of}
use Rattle.tm_steal_rows.proofs.Laying.{laid-none, laid-both, takes-given, ends-given, ends-behind}
use Rattle.tm_steal_rows.proofs.queues.lay_given.Goals as goal

pub loop-all-init : goal.loop-all-init
loop-all-init c = (laid-none (flat_map (λ queue. queue.items) c.args.queues.now.items), sym (append-nil c.args.ends.now.items))

pub loop-all-preserved : goal.loop-all-preserved
loop-all-preserved c =
    let given = c.loop-all.yielded in
    let all = c.in-Some.all in (
      laid-both (flat_map (λ queue. queue.items) c.args.queues.now.items) (flat_map (λ queue. queue.items) c.loop-all.queues.items) (flat_map (λ queue. queue.items) c.lay_all.new.queues.items) (takes_of (all_given given)) (takes_of (events_of all)) (takes_of (all_given (given ++ all ∷ [])))
          (takes-given given all) c.loop-all.invariant.0 c.in_ok-lay_all.ensures.takes,
      ends-behind c.args.ends.now.items c.loop-all.ends.items c.lay_all.new.ends.items (ends_of (all_given given)) (ends_of (events_of all)) (ends_of (all_given (given ++ all ∷ []))) (ends-given given all) c.loop-all.invariant.1 c.in_ok-lay_all.ensures.ends,
    )
