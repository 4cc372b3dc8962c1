use Rattle.tm_rules.proofs.EqualityLaws.{lines_are_same}
use Rattle.tm_rules.proofs.equality.same_line_is_equality.Goals as goal

pub returns : goal.returns
returns c = lines_are_same
