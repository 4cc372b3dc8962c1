use Rattle.std.proofs.Common.{◌≡◌, ◌+◌, length}
use Rattle.tm_share.specs.Pools.{AreSettled}
use Rattle.tm_share.proofs.pool.close_all.Given as goal

abbrev pub invariant-loop-worker : goal.invariant-loop-worker
invariant-loop-worker g l =
    AreSettled l.fn.deques.items l.fn.all_ways.items l.owns.items l.rounds × (length l.rounds + l._worker ≡ l.workers)
