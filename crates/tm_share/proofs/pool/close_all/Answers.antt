use Rattle.std.proofs.Common.{ap, length, arith}
use Rattle.tm_share.proofs.Pools.{settled-fit, settled-more}
use Rattle.tm_share.proofs.pool.close_all.Goals as goal

pub close_ways-requires : goal.close_ways-requires
close_ways-requires g c =
    let l = c.loop-worker in
    settled-fit c.args.deques.items c.args.all_ways.items l.owns.items l.rounds c.next.new.self c.in-Some.ways l.invariant.0 c.in-Some.ensures

pub loop-worker-preserved : goal.loop-worker-preserved
loop-worker-preserved g c =
    let l = c.loop-worker in (
      settled-more c.args.deques.items c.args.all_ways.items l.owns.items c.in_ok-owns.owns.items l.rounds c.next.new.self c.in-Some.ways l.invariant.0 c.in-Some.ensures c.in_ok-owns.ensures,
      (let e = ap length c.in-Some.ensures in let i = l.invariant.1 in omega arith),
    )
