use Rattle.std.proofs.Common.{◌≡◌, ◌+◌, ◌++◌, length}
use Rattle.tm_share.specs.Pools.{Fit, closed}
use Rattle.tm_share.proofs.pool.close_ways.Given as goal

-- the deques so far, and those whose ways are still to come back
abbrev pub invariant-loop-worker : goal.invariant-loop-worker
invariant-loop-worker g l =
    (l.done.items ++ closed l.owns l.ways ≡ closed l.fn.deques.items l.fn.back)
    × Fit l.owns l.ways × (length l.owns + l._worker ≡ l.workers)
