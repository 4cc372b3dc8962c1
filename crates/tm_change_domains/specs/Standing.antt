-- Where a look stands: a domain, its namespace and its profile.
use Rattle.std.specs.Prelude.{◌≡◌, ℕ, Some}
use Rattle.std.specs.List.{position_from}
use Rattle.tm_word.specs.Prelude.{texts_equal}
use Rattle.tm_rules.specs.Types.{Domain, Namespace, Policy, Profile}
use Rattle.tm_rules.specs.Prelude.{domain_at, namespace_of, namespace_word, profile_of}

-- a domain with its number, its namespace with its place among the others, and its profile
pub record Standing : Type 0 where
  pub number : ℕ
  pub domain : Domain
  pub place : ℕ
  pub namespace : Namespace
  pub profile : Profile

-- it is one of this policy: its domain has that number, its namespace is the first of its name, and
-- its profile is defined
pub record StandsIn (policy : Policy) (standing : Standing) : Type 0 where
  pub domain : domain_at policy standing.number ≡ Some standing.domain
  pub place : position_from (λ (ns : Namespace). texts_equal ns.name
      (namespace_word standing.domain.name)) 0 policy.namespaces ≡ Some standing.place
  pub namespace : namespace_of policy standing.domain ≡ standing.namespace
  pub profile : profile_of policy standing.domain ≡ Some standing.profile
