use Rattle.tm_share.proofs.Pools.{settled-from, settled-ok}
use Rattle.tm_share.proofs.pool.settle.Goals as goal

pub close_all-requires : goal.close_all-requires
close_all-requires g c = settled-from c.args.hands.items c.in_ok-owns.owns.items c.in_ok-owns.rounds.items c.in_ok-owns.ensures.owns c.in_ok-owns.ensures.rounds c.requires

pub returns : goal.returns
returns g c =
    settled-ok c.drain_all.result (λ left. left.items) c.args.hands.items c.in_ok-owns.owns.items c.in_ok-owns-2.owns.items c.in_ok-owns.rounds.items
    c.in_ok-owns.ensures.owns c.in_ok-owns.ensures.rounds c.in_ok-owns-2.ensures c.drain_all.ensures
