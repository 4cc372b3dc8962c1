use Rattle.tm_rules.proofs.EqualityLaws.{conds_are_same}
use Rattle.tm_rules.proofs.equality.conds_equal.Goals as goal

pub returns : goal.returns
returns c = conds_are_same c.same.result c.args.left.now c.args.right.now c.same.ensures
