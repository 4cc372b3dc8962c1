use Rattle.std.proofs.Common.{◌≡◌, []}
use Rattle.std.specs.Prelude.{flat_map}
use Rattle.tm_steal_rows.proofs.queues.empty_queues.Given as goal

abbrev pub invariant-loop-process : goal.invariant-loop-process
invariant-loop-process l = flat_map (λ queue. queue.items) l.queues.items ≡ []
