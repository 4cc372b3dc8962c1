-- The lines that can be read from some text.
use Rattle.std.specs.Prelude.{◌≡◌, ◌<◌, nat_lt, Bool, true, ◌&&◌, ◌||◌, not, is_some}
use Rattle.tm_word.specs.Prelude.{Text, begins_with_byte, spelled_word, texts_equal}
use Rattle.tm_rules.specs.Types.{DomainRule, ExceptRule, ManagerRule, PolicyLine}
use Rattle.tm_rules.specs.Prelude.{is_domain_name, kernel}
use Rattle.tm_line.specs.Names.{is_path}
use Rattle.tm_entry.specs.Entries.{is_entry}
use Rattle.tm_except.specs.Written.{is_rule, is_listed}
use Rattle.tm_profile.specs.Texts.{IsEffect, IsNamespaceWord}

-- the spelling of a name that begins with `/`
abbrev pub is_literal_text : Text → Bool
is_literal_text text = begins_with_byte 47 text && is_some (spelled_word text)

-- a manager is a domain name or one literal path
unfoldable pub is_manager_text : Text → Bool
is_manager_text text = is_domain_name is_path text || is_literal_text text

-- names are right, numbers below 256, entries can be written, and `<kernel>` isn't deleted
unfoldable pub is_domain_rule : DomainRule → Bool
is_domain_rule (DomainRule.Choose name) = is_domain_name is_path name
is_domain_rule (DomainRule.Select name) = is_domain_name is_path name
is_domain_rule (DomainRule.Delete name) =
    is_domain_name is_path name && not (texts_equal name kernel)
is_domain_rule (DomainRule.UseProfile n) = nat_lt n 256
is_domain_rule (DomainRule.UseGroup delete n) = nat_lt n 256
is_domain_rule (DomainRule.QuotaExceeded delete) = true
is_domain_rule (DomainRule.TransitionFailed delete) = true
is_domain_rule (DomainRule.Acl delete entry) = is_entry entry

unfoldable pub is_manager_rule : ManagerRule → Bool
is_manager_rule ManagerRule.ByNonRoot = true
is_manager_rule (ManagerRule.Name name) = is_manager_text name

-- a rule that stands in a namespace's lists
unfoldable pub is_written_rule : ExceptRule → Bool
is_written_rule rule = is_rule rule && is_listed rule

-- a line of any file that can be read from some text
abbrev pub IsWrittenLine : PolicyLine → Type 0
IsWrittenLine PolicyLine.Nothing = Unit {0}
IsWrittenLine (PolicyLine.Profile line) = IsNamespaceWord line.namespace × IsEffect line.effect
IsWrittenLine (PolicyLine.Exception line) =
    IsNamespaceWord line.namespace × (is_written_rule line.rule ≡ true)
IsWrittenLine (PolicyLine.Group line) =
    IsNamespaceWord line.namespace × (line.group < 256) × (is_entry line.entry ≡ true)
IsWrittenLine (PolicyLine.Domain rule) = is_domain_rule rule ≡ true
IsWrittenLine (PolicyLine.Manager delete rule) = is_manager_rule rule ≡ true
