use Rattle.tm_share.specs.Pools.{deques_of, IsOpened}
use Rattle.tm_share.proofs.pool.all_ways.Given as goal

abbrev pub invariant-loop-worker : goal.invariant-loop-worker
invariant-loop-worker g l = IsOpened (deques_of l.fn.deques.items) l._worker l.owns.items l.rounds.items
