use Rattle.tm_take.specs.Situations.{situations}
use Rattle.tm_take.proofs.RaisedLaws.{take_seen}
use Rattle.tm_take.proofs.situations.ProcessSituations.take_seen.Goals as goal

pub returns : goal.returns
returns c =
    take_seen c.put.result (situations c.args.self.now) (situations c.put.new.self) c.args.pid c.args.after c.args.highest c.max.result c.args.now c.requires c.max.ensures c.put.ensures
