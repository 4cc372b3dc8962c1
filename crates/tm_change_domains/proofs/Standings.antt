-- What a standing in a policy with short lists has.
use Rattle.std.proofs.Common.{◌≡◌, Bool, true, false, List, [], ◌∷◌, subst, arith}
use Rattle.std.specs.Prelude.{ℕ, Some, None, if◌then◌else◌, unwrap_or}
use Rattle.std.specs.Option.{option_and_then}
use Rattle.std.specs.List.{AllByRecursion, find}
use Rattle.tm_word.specs.Prelude.{Text, texts_equal}
use Rattle.tm_rules.specs.Types.{Domain, Namespace, Policy}
use Rattle.tm_rules.specs.Prelude.{IsFew, IsFewHere, IsShort, at_key, domain_at, empty_namespace, namespace_named, namespace_word, profile_of}
use Rattle.tm_change_domains.specs.Standing.{Standing, StandsIn}
use Rattle.tm_change_domains.proofs.ShortLists.{short_entries}

-- what is looked for, and what stands for it where it isn't there
each_or : {A : Type 0} (P : A → Type 0) (test : A → Bool) (xs : List A) (d : A) → P d → AllByRecursion P xs → P (unwrap_or (find test xs) d)
each_or P test [] d h each = h
each_or P test (x ∷ xs) d h each = go (each_or P test xs d h each.1) (test x)
  where
    go : P (unwrap_or (find test xs) d) → (b : Bool) → P (unwrap_or (if b then Some x else find test xs) d)
    go ih true = each.0
    go ih false = ih

few_empty : (name : Text) → IsFewHere (empty_namespace name)
few_empty name = record { members = omega arith; acl_entries = tt }

few_named : (policy : Policy) (name : Text) → IsFew policy → IsFewHere (namespace_named policy name)
unfolding namespace_named
few_named policy name few = each_or IsFewHere (λ (ns : Namespace). texts_equal ns.name name) policy.namespaces (empty_namespace name) (few_empty name) few.namespaces

-- where the profile of a domain isn't there
pub no_profile : (policy : Policy) (number : ℕ) (domain : Domain) (ns : Namespace) → domain_at policy number ≡ Some domain → find (λ (ns : Namespace). texts_equal ns.name (namespace_word domain.name)) policy.namespaces ≡ Some ns → at_key ns.profiles domain.profile ≡ None
    → option_and_then (profile_of policy) (domain_at policy number) ≡ None
unfolding namespace_named
no_profile policy number domain ns at found none = rw (at, found) none

-- the lists of its namespace are short
pub few_here : (policy : Policy) (standing : Standing) → IsFew policy → StandsIn policy standing → IsFewHere standing.namespace
few_here policy standing few stands = subst IsFewHere stands.namespace (few_named policy (namespace_word standing.domain.name) few)

-- so is its domain's own
pub few_own : (policy : Policy) (standing : Standing) → IsFew policy → StandsIn policy standing → IsShort standing.domain.entries
few_own policy standing few stands = short_entries policy standing.number standing.domain stands.domain few
