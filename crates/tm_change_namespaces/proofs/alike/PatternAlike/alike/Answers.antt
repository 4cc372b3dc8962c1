use Rattle.tm_change_namespaces.proofs.Tests.{patterns_are_same}
use Rattle.tm_change_namespaces.proofs.alike.PatternAlike.alike.Goals as goal

pub returns : goal.returns
returns c = patterns_are_same c.same.result c.args.self.now c.args.other.now c.same.ensures
