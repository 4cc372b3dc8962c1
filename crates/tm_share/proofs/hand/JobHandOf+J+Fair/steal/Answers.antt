use Rattle.tm_share.proofs.Hands.{steal-by}
use Rattle.tm_share.proofs.hand.JobHandOf+J+Fair.steal.Goals as goal

pub returns : goal.returns
returns g c = steal-by c.steal_by.result c.self.inside.own c.self.inside.ways.items c.steal_by.new.ways.items c.args.self.now c.self.view_is c.steal_by.ensures
