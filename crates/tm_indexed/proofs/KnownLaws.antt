-- What the index of a policy tells of the lists that a domain is searched in.
use Rattle.std.proofs.Common.{◌≡◌, ℕ, List, [], sym, ap, ◌∙◌}
use Rattle.std.specs.Prelude.{Option, Some, None, option_map, slice_get, unwrap_or}
use Rattle.std.specs.List.{find}
use Rattle.tm_word.specs.Prelude.{texts_equal}
use Rattle.tm_rules.specs.Types.{Domain, Namespace, Policy}
use Rattle.tm_rules.specs.Prelude.{domain_at, empty_namespace, namespace_named, namespace_of, namespace_word}
use Rattle.tm_change_namespaces.proofs.GroupLaws.{named_there}
use Rattle.tm_change_namespaces.proofs.Places.{none_found}
use Rattle.tm_index.specs.declared.list.ListIndex.{ListIndex}
use Rattle.tm_index.specs.declared.index.DomainIndex.{DomainIndex}
use Rattle.tm_index.specs.Listing.{Listed, listed, listing}
use Rattle.tm_index.specs.Index.{Told, telling, domain_listed, domain_listing, groups_listed, groups_listing}
use Rattle.tm_index.proofs.TellingLaws.{seen_at}
use Rattle.tm_indexed.specs.Groups.{place_named}
use Rattle.tm_indexed.specs.Known.{list_in, known}

module _ (x : Told) (policy : Policy) (e : x ≡ telling policy) where
  -- what is told of a domain that is there
  domain_told : (number : ℕ) (domain : Domain) → domain_at policy number ≡ Some domain → slice_get x.domains number ≡ Some (domain_listing domain)
  unfolding telling
  domain_told number domain there = ap (λ (t : Told). slice_get t.domains number) e ∙ seen_at domain_listing policy.domains number ∙ ap (option_map domain_listing) there

  -- something is
  pub noted_somewhere : (number : ℕ) (domain : Domain) → domain_at policy number ≡ Some domain → None ≡ slice_get x.domains number → ⊥
  noted_somewhere number domain there none = let both : None ≡ Some (domain_listing domain) = none ∙ domain_told number domain there in absurd cc

  -- where its entries stand, and how many permissions they have
  pub own_noted : (number : ℕ) (domain : Domain) (seen : Listed × ℕ) → domain_at policy number ≡ Some domain → Some seen ≡ slice_get x.domains number → seen ≡ domain_listing domain
  own_noted number domain seen there is = let same : Some seen ≡ Some (domain_listing domain) = is ∙ domain_told number domain there in cc

  -- what is told of the ACL groups of a namespace that is there
  namespace_told : (k : ℕ) (ns : Namespace) → slice_get policy.namespaces k ≡ Some ns → slice_get x.groups k ≡ Some (groups_listing ns)
  unfolding telling
  namespace_told k ns there = ap (λ (t : Told). slice_get t.groups k) e ∙ seen_at groups_listing policy.namespaces k ∙ ap (option_map groups_listing) there

  -- something is
  pub groups_somewhere : (k : ℕ) (ns : Namespace) → slice_get policy.namespaces k ≡ Some ns → None ≡ slice_get x.groups k → ⊥
  groups_somewhere k ns there none = let both : None ≡ Some (groups_listing ns) = none ∙ namespace_told k ns there in absurd cc

  -- the lists of its groups
  pub groups_seen : (k : ℕ) (ns : Namespace) (seen : ℕ → Listed) → slice_get policy.namespaces k ≡ Some ns → Some seen ≡ slice_get x.groups k → seen ≡ groups_listing ns
  groups_seen k ns seen there is = let same : Some seen ≡ Some (groups_listing ns) = is ∙ namespace_told k ns there in cc

group-noted : (o : Option (List (ℕ × ListIndex))) (ns : Namespace) (group : ℕ) → option_map groups_listed o ≡ Some (groups_listing ns) → groups_listed (unwrap_or o []) group ≡ groups_listing ns group
group-noted None ns group e = absurd cc
group-noted (Some m) ns group e = let same : groups_listed m ≡ groups_listing ns = cc in ap (λ f. f group) same

-- the namespace of a domain, at its place
named_at_word : (policy : Policy) (domain : Domain) (k : ℕ) → place_named (namespace_word domain.name) policy.namespaces ≡ Some k → slice_get policy.namespaces k ≡ Some (namespace_of policy domain)
unfolding namespace_named
named_at_word policy domain k place = named_there (namespace_word domain.name) policy.namespaces k place

-- and where it has no line
no_namespace : (policy : Policy) (domain : Domain) → place_named (namespace_word domain.name) policy.namespaces ≡ None → namespace_of policy domain ≡ empty_namespace (namespace_word domain.name)
unfolding namespace_named
no_namespace policy domain place =
    ap (λ o. unwrap_or o (empty_namespace (namespace_word domain.name))) (none_found (λ (ns : Namespace). texts_equal ns.name (namespace_word domain.name)) 0 policy.namespaces place)

module _ (x : Told) (policy : Policy) (e : x ≡ telling policy) (number : ℕ) (domain : Domain) (there : domain_at policy number ≡ Some domain) (noted : DomainIndex) (is : Some (domain_listed noted) ≡ slice_get x.domains number) where
  own_listed : listed noted.own ≡ listing domain.entries
  own_listed = ap (λ (d : Listed × ℕ). d.0) (own_noted x policy e number domain (domain_listed noted) there is)

  -- the lists of a domain whose namespace has a line
  pub known_there : (k : ℕ) (o : Option (List (ℕ × ListIndex))) → place_named (namespace_word domain.name) policy.namespaces ≡ Some k → option_map groups_listed o ≡ slice_get x.groups k
      → (group : Option ℕ) → known noted.own o group ≡ listing (list_in policy domain group)
  known_there k o place found None = own_listed
  known_there k o place found (Some group) =
      group-noted o (namespace_of policy domain) group (found ∙ namespace_told x policy e k (namespace_of policy domain) (named_at_word policy domain k place))

  -- and of one whose namespace has none
  pub known_nowhere : place_named (namespace_word domain.name) policy.namespaces ≡ None → (group : Option ℕ) → known noted.own None group ≡ listing (list_in policy domain group)
  known_nowhere place None = own_listed
  known_nowhere place (Some group) = ap (λ (ns : Namespace). groups_listing ns group) (sym (no_namespace policy domain place))
