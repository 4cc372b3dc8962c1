use Rattle.tm_share.proofs.Hands.{take-by}
use Rattle.tm_share.proofs.hand.JobHandOf+J+Fair.take.Goals as goal

pub returns : goal.returns
returns g c = take-by c.take.result c.self.inside.own c.take.new.self c.self.inside.ways.items c.args.self.now c.self.view_is c.take.ensures
