use Rattle.std.proofs.Common.{◌≡◌, ◌+◌, ◌++◌, length}
use Rattle.tm_share.specs.Pools.{paired}
use Rattle.tm_share.proofs.pool.hands_of.Given as goal

-- the hands so far, and those that are still to be made
abbrev pub invariant-loop-worker : goal.invariant-loop-worker
invariant-loop-worker g l =
    (l.hands.items ++ paired l.owns l.rounds ≡ paired l.fn.deques.items l.fn.all_ways.items)
    × (length l.owns + l._worker ≡ l.workers)
