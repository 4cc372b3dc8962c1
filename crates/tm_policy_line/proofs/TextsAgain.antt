-- Each line that can be written, but those of profiles, is what its printed text gives.
use Rattle.std.proofs.Common.{◌≡◌, Bool, ◌∙◌, Ok}
use Rattle.tm_word.specs.Prelude.{joined}
use Rattle.tm_rules.specs.Types.{DomainRule, ExceptLine, FileKind, GroupLine, ManagerRule, PolicyLine}
use Rattle.tm_except.specs.Printing.{line_words}
use Rattle.tm_policy_line.specs.Reading.{read_line}
use Rattle.tm_policy_line.specs.Printing.{deleted, domain_rule_words, manager_rule_words, group_line_words}
use Rattle.tm_policy_line.specs.Written.{IsWrittenLine}
use Rattle.tm_policy_line.proofs.TextLines.{joined_line}
use Rattle.tm_policy_line.proofs.DomainAgain.{domain_again}
use Rattle.tm_policy_line.proofs.ManagerAgain.{manager_rule_again, manager_rule_are}
use Rattle.tm_policy_line.proofs.ExceptionAgain.{exception_again, acl_group_again}
use Rattle.tm_policy_line.proofs.PrintedWords.{deleted_are, domain_are, line_are, group_line_are}

pub domain_text : (rule : DomainRule) → IsWrittenLine (PolicyLine.Domain rule) → read_line FileKind.Domain (joined (domain_rule_words rule)) ≡ Ok (PolicyLine.Domain rule)
domain_text rule h = joined_line FileKind.Domain (domain_rule_words rule) (domain_are rule h) ∙ domain_again rule h

pub manager_text : (delete : Bool) (rule : ManagerRule) → IsWrittenLine (PolicyLine.Manager delete rule) → read_line FileKind.Manager (joined (deleted delete (manager_rule_words rule))) ≡ Ok (PolicyLine.Manager delete rule)
manager_text delete rule h =
    joined_line FileKind.Manager (deleted delete (manager_rule_words rule)) (deleted_are delete (manager_rule_words rule) (manager_rule_are rule h)) ∙ manager_rule_again delete rule h

pub exception_text : (found : ExceptLine) → IsWrittenLine (PolicyLine.Exception found) → read_line FileKind.Exception (joined (line_words found)) ≡ Ok (PolicyLine.Exception found)
exception_text found h =
    joined_line FileKind.Exception (line_words found) (line_are found.delete found.namespace found.rule h.0.0 h.1) ∙ exception_again found.delete found.namespace found.rule h.0.1 h.1

pub acl_group_text : (group : GroupLine) → IsWrittenLine (PolicyLine.Group group) → read_line FileKind.Exception (joined (group_line_words group)) ≡ Ok (PolicyLine.Group group)
acl_group_text group h = joined_line FileKind.Exception (group_line_words group) (group_line_are group h.0.0 h.1 h.2) ∙ acl_group_again group h.0.1 h.1 h.2
