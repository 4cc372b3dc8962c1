-- Lists whose places are written as numbers below 2^32.
use Rattle.std.specs.Prelude.{ℕ, ◌<◌, ◌^◌, List, length}
use Rattle.std.specs.List.{AllByRecursion}
use Rattle.tm_rules.specs.Types.{Domain, Entry, Namespace, Policy}

-- each place of the list is below 2^32
abbrev pub IsShort : {A : Type 0} → List A → Type 0
IsShort xs = length xs < 2 ^ 32

-- the members of path groups and the entries of ACL groups
pub record IsFewHere (ns : Namespace) : Type 0 where
  pub members : IsShort ns.groups.paths
  pub acl_entries : AllByRecursion (λ (group : ℕ × List Entry). IsShort group.1) ns.acl_groups

-- the domains, the entries of each, and what each namespace holds
pub record IsFew (policy : Policy) : Type 0 where
  pub domains : IsShort policy.domains
  pub entries : AllByRecursion (λ (domain : Domain). IsShort domain.entries) policy.domains
  pub namespaces : AllByRecursion IsFewHere policy.namespaces
