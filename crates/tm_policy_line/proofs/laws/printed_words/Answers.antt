use Rattle.tm_policy_line.proofs.PrintedWords.{deleted_are, domain_are, group_line_are}
use Rattle.tm_policy_line.proofs.ManagerAgain.{manager_are, manager_rule_are}
use Rattle.tm_policy_line.proofs.TextLines.{joined_line}
use Rattle.tm_policy_line.specs.Printing.{manager_rule_words}
use Rattle.tm_policy_line.proofs.laws.printed_words.Goals as goal

pub returns : goal.returns
returns c = record {
  joined = joined_line;
  domain = domain_are;
  manager = manager_are;
  manager_rule = λ delete rule h. deleted_are delete (manager_rule_words rule) (manager_rule_are rule h);
  acl_group = group_line_are;
}
