use Rattle.tm_share.proofs.Hands.{steal-at}
use Rattle.tm_share.proofs.hand.steal_by.Goals as goal

pub returns : goal.returns
returns g c = steal-at c.steal.result c.args.ways.now.items c.args.place c.index_mut.result.now c.steal.new.self c.requires c.index_mut.ensures.value c.steal.ensures
