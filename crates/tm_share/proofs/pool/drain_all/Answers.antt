use Rattle.tm_share.proofs.Pools.{drained-more}
use Rattle.tm_share.proofs.pool.drain_all.Goals as goal

pub loop-own-preserved : goal.loop-own-preserved
loop-own-preserved g c = drained-more c.loop-own.yielded c.in-Some.own c.loop-own.left.items c.drain.new.left.items c.loop-own.invariant c.in_ok-drain.ensures
