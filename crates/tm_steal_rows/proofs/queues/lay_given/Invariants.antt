use Rattle.std.proofs.Common.{◌≡◌, ◌++◌}
use Rattle.std.specs.Prelude.{flat_map}
use Rattle.tm_steal_rows.specs.Gathering.{AreLaid, all_given, takes_of, ends_of}
use Rattle.tm_steal_rows.proofs.queues.lay_given.Given as goal

abbrev pub invariant-loop-all : goal.invariant-loop-all
invariant-loop-all l =
    AreLaid (flat_map (λ queue. queue.items) l.initial.queues.items) (takes_of (all_given l.yielded)) (flat_map (λ queue. queue.items) l.queues.items)
    × (l.ends.items ≡ l.initial.ends.items ++ ends_of (all_given l.yielded))
