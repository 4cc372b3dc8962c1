use Rattle.std.proofs.Common.{◌≡◌, [], take}
use Rattle.tm_seat.specs.Dealing.{queues_own}
use Rattle.tm_seat.proofs.rows.all_are_empty.Given as goal

abbrev pub invariant-loop-queue : goal.invariant-loop-queue
invariant-loop-queue l = queues_own (take l.queue-index l.queues) ≡ []
