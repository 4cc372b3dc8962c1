use Rattle.tm_share.specs.Pools.{deques_of}
use Rattle.tm_share.proofs.Pools.{opened-push}
use Rattle.tm_share.proofs.pool.all_ways.Goals as goal

pub loop-worker-preserved : goal.loop-worker-preserved
loop-worker-preserved g c =
    opened-push (deques_of c.args.deques.items) c.loop-worker._worker c.loop-worker.owns.items c.in_ok-lent.lent.items c.loop-worker.rounds.items c.push.new.self.items c.in_ok-lent.ways
    c.loop-worker.invariant c.in_ok-lent.ensures.owns c.in_ok-lent.ensures.ways c.in_ok-push.ensures.items
