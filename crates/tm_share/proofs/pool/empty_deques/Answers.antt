use Rattle.tm_share.proofs.Pools.{empty-more}
use Rattle.tm_share.proofs.pool.empty_deques.Goals as goal

pub loop-worker-preserved : goal.loop-worker-preserved
loop-worker-preserved g c =
    empty-more c.loop-worker.owns.items c.push.new.self.items c.in_ok-new.field-0 c.loop-worker._worker c.in_ok-push.ensures.items c.loop-worker.invariant c.in_ok-new.ensures
