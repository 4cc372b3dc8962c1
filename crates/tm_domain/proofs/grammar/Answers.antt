use Rattle.tm_domain.proofs.NameLaws.{same_name, right_name}
use Rattle.tm_domain.proofs.grammar.Goals as goal

pub returns : goal.returns
returns c = record {
  same = same_name;
  right = right_name;
}
