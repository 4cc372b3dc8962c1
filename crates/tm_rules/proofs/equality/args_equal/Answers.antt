use Rattle.tm_rules.proofs.EqualityLaws.{args_are_same}
use Rattle.tm_rules.proofs.equality.args_equal.Goals as goal

pub returns : goal.returns
returns c = args_are_same c.same.result c.args.left.now c.args.right.now c.same.ensures
