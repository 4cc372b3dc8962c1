use Rattle.std.proofs.Common.{◌++◌, ◌∷◌, [], append-nil, sym}
use Rattle.std.specs.Prelude.{flat_map}
use Rattle.tm_steal_rows.specs.Playing.{events_in, events_of}
use Rattle.tm_steal_rows.specs.Gathering.{takes_of, ends_of}
use Rattle.tm_steal_rows.proofs.Laying.{laid-none, laid-both, takes-more, ends-more, ends-behind}
use Rattle.tm_steal_rows.proofs.queues.lay_all.Goals as goal

pub loop-played-init : goal.loop-played-init
loop-played-init c = (laid-none (flat_map (λ queue. queue.items) c.args.queues.now.items), sym (append-nil c.args.ends.now.items))

pub loop-played-preserved : goal.loop-played-preserved
loop-played-preserved c =
    let all = c.loop-played.yielded in
    let played = c.in-Some.played in (
      laid-both (flat_map (λ queue. queue.items) c.args.queues.now.items) (flat_map (λ queue. queue.items) c.loop-played.queues.items) (flat_map (λ queue. queue.items) c.lay.new.queues.items) (takes_of (events_of all)) (takes_of (events_in played)) (takes_of (events_of (all ++ played ∷ [])))
          (takes-more all played) c.loop-played.invariant.0 c.in_ok-lay.ensures.takes,
      ends-behind c.args.ends.now.items c.loop-played.ends.items c.lay.new.ends.items (ends_of (events_of all)) (ends_of (events_in played)) (ends_of (events_of (all ++ played ∷ []))) (ends-more all played) c.loop-played.invariant.1 c.in_ok-lay.ensures.ends,
    )
