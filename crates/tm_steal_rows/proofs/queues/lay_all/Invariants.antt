use Rattle.std.proofs.Common.{◌≡◌, ◌++◌}
use Rattle.std.specs.Prelude.{flat_map}
use Rattle.tm_steal_rows.specs.Playing.{events_of}
use Rattle.tm_steal_rows.specs.Gathering.{AreLaid, takes_of, ends_of}
use Rattle.tm_steal_rows.proofs.queues.lay_all.Given as goal

abbrev pub invariant-loop-played : goal.invariant-loop-played
invariant-loop-played l =
    AreLaid (flat_map (λ queue. queue.items) l.initial.queues.items) (takes_of (events_of l.yielded)) (flat_map (λ queue. queue.items) l.queues.items)
    × (l.ends.items ≡ l.initial.ends.items ++ ends_of (events_of l.yielded))
