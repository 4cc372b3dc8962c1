use Rattle.std.proofs.Common.{◌≡◌, [], take}
use Rattle.std.specs.Prelude.{flat_map}
use Rattle.tm_steal_rows.proofs.queues.no_take_left.Given as goal

abbrev pub invariant-loop-queue : goal.invariant-loop-queue
invariant-loop-queue l = flat_map (λ queue. queue.items) (take l.queue-index l.queues) ≡ []
