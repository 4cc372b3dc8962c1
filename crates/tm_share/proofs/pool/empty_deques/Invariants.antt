use Rattle.std.proofs.Common.{◌≡◌, length}
use Rattle.tm_share.specs.Pools.{AreEmpty}
use Rattle.tm_share.proofs.pool.empty_deques.Given as goal

abbrev pub invariant-loop-worker : goal.invariant-loop-worker
invariant-loop-worker g l = (length l.owns.items ≡ l._worker) × AreEmpty l.owns.items
