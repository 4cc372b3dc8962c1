-- The policies that lines can leave.
use Rattle.std.specs.Prelude.{◌≡◌, ℕ, ◌<◌, Bool, true, List, length}
use Rattle.std.specs.List.{AllByRecursion, IsDistinct}
use Rattle.tm_word.specs.Prelude.{Pattern, Text, Word, texts_equal}
use Rattle.tm_list.specs.Map.{Rises}
use Rattle.tm_rules.specs.Types.{AddrRange, Control, Domain, Entry, ExceptRule, Namespace, Policy, Range}
use Rattle.tm_rules.specs.Prelude.{is_domain_name, patterns_equal, ranges_equal, same_addr_range, same_aggregator, same_control, same_line, same_member}
use Rattle.tm_domain.specs.Names.{is_path}
use Rattle.tm_entry.specs.Entries.{is_entry}
use Rattle.tm_profile.specs.Texts.{IsNamespaceWord}
use Rattle.tm_profile.specs.Texts.{IsWritten as AreProfiles}
use Rattle.tm_policy_line.specs.Written.{is_manager_text, is_written_rule}

-- each can be written, and no two share a line
pub record AreEntries (entries : List Entry) : Type 0 where
  pub each : AllByRecursion (λ (e : Entry). is_entry e ≡ true) entries
  pub once : IsDistinct same_line entries

-- the rule of each can be written, and none stands twice
pub record AreRules {A : Type 0} (rule : A → ExceptRule) (same : A → A → Bool) (members : List A) : Type 0 where
  pub each : AllByRecursion (λ (x : A). is_written_rule (rule x) ≡ true) members
  pub once : IsDistinct same members

-- the rules of the members of each list
abbrev pub path_rule : Word × Pattern → ExceptRule
path_rule group = ExceptRule.PathGroup group.0 group.1

abbrev pub number_rule : Word × Range → ExceptRule
number_rule group = ExceptRule.NumberGroup group.0 group.1

abbrev pub address_rule : Word × AddrRange → ExceptRule
address_rule group = ExceptRule.AddressGroup group.0 group.1

abbrev pub aggregator_rule : Pattern × Word → ExceptRule
aggregator_rule pair = ExceptRule.Aggregator pair.0 pair.1

abbrev pub control_rule : Control → ExceptRule
control_rule control = ExceptRule.Control control

-- an ACL group has a number below 256 and an entry or more
pub record IsAclGroup (group : ℕ × List Entry) : Type 0 where
  pub number : group.0 < 256
  pub some : 0 < length group.1
  pub entries : AreEntries group.1

-- what lines can leave of a namespace: a name that a line can write, profiles that fit, lists of
-- rules that lines can write, none of them twice, and ACL groups by rising numbers
pub record IsWrittenHere (ns : Namespace) : Type 0 where
  pub name : IsNamespaceWord ns.name
  pub profiles : AreProfiles ns.profiles
  pub paths : AreRules path_rule (same_member patterns_equal) ns.groups.paths
  pub numbers : AreRules number_rule (same_member ranges_equal) ns.groups.numbers
  pub addrs : AreRules address_rule (same_member same_addr_range) ns.groups.addrs
  pub aggregators : AreRules aggregator_rule same_aggregator ns.aggregators
  pub controls : AreRules control_rule same_control ns.controls
  pub acl_order : Rises (λ n. n) ns.acl_groups
  pub acl_groups : AllByRecursion IsAclGroup ns.acl_groups

-- a number below 256
abbrev pub IsMember : ℕ × Unit {0} → Type 0
IsMember group = group.0 < 256

-- what lines can leave of a domain, live or dead: a right name, numbers below 256, its ACL groups
-- by rising numbers, and entries that lines can write
pub record IsWrittenDomain (domain : Domain) : Type 0 where
  pub name : is_domain_name is_path domain.name ≡ true
  pub profile : domain.profile < 256
  pub group_order : Rises (λ n. n) domain.groups
  pub groups : AllByRecursion IsMember domain.groups
  pub entries : AreEntries domain.entries

-- two namespaces of one name
abbrev pub same_name : Namespace → Namespace → Bool
same_name a b = texts_equal a.name b.name

-- a policy that lines can leave: one namespace of each name, and managers that lines can write,
-- none of them twice
pub record IsWritten (policy : Policy) : Type 0 where
  pub namespaces : AllByRecursion IsWrittenHere policy.namespaces
  pub names : IsDistinct same_name policy.namespaces
  pub domains : AllByRecursion IsWrittenDomain policy.domains
  pub managers : AllByRecursion (λ (name : Text). is_manager_text name ≡ true) policy.managers
  pub managers_once : IsDistinct texts_equal policy.managers
