-- The index of a policy.
use Rattle.std.specs.Prelude.{◌≡◌, ℕ, ◌<◌, Bool, ◌&&◌, if◌then◌else◌, List, [], ◌∷◌, ◌++◌, length, drop, map}
use Rattle.std.specs.Option.{option_map_or}
use Rattle.tm_word.specs.Prelude.{texts_equal}
use Rattle.tm_rules.specs.Types.{Domain, Namespace, Policy}
use Rattle.tm_rules.specs.Prelude.{DomainName, acl_group, at_key, changed_at, count}
use Rattle.tm_index.specs.Buckets.{Places, places_at, placing, with_place}
use Rattle.tm_index.specs.Listing.{Listed, listed, listing, noting, closed, places_from}
use Rattle.tm_index.specs.declared.label.Label.{Label}
use Rattle.tm_index.specs.declared.list.ListIndex.{ListIndex}
use Rattle.tm_index.specs.declared.index.DomainIndex.{DomainIndex}
use Rattle.tm_index.specs.declared.index.Index.{Index}

-- what is noted of a domain: where its entries stand, and how many permissions they have
abbrev pub domain_listed : DomainIndex → Listed × ℕ
domain_listed index = (listed index.own, index.permissions)

abbrev pub domain_listing : Domain → Listed × ℕ
domain_listing domain = (listing domain.entries, count domain)

-- what is noted of the ACL groups of a namespace, by their numbers; a group that isn't there has no
-- entries
abbrev pub groups_listed : List (ℕ × ListIndex) → ℕ → Listed
groups_listed groups number = option_map_or listed (at_key groups number) (listing [])

abbrev pub groups_listing : Namespace → ℕ → Listed
groups_listing ns number = listing (acl_group ns number)

-- a live domain of that name
abbrev pub is_live : DomainName → Domain → Bool
is_live name domain = domain.live && texts_equal domain.name name

-- the live domains by their names
abbrev pub live_places : List Domain → Places
live_places domains name = places_from (is_live name) 0 domains

-- one more place of a domain's name, where it is live
abbrev pub with_live : ℕ → Domain → Places → Places
with_live place domain places = if domain.live then with_place domain.name place places else places

-- what is noted of each list of a policy, and of its live domains
pub record Told : Type 0 where
  pub domains : List (Listed × ℕ)
  pub groups : List (ℕ → Listed)
  pub live : Places

-- what an index tells
abbrev pub told : Index → Told
told index =
    record {
      domains = map domain_listed index.domains;
      groups = map groups_listed index.groups;
      live = places_at index.live;
    }

-- what the index of a policy tells
unfoldable pub telling : Policy → Told
telling policy =
    record {
      domains = map domain_listing policy.domains;
      groups = map groups_listing policy.namespaces;
      live = live_places policy.domains;
    }

-- the index is that of the policy
abbrev pub IsIndexOf : Index → Policy → Type 0
IsIndexOf index policy = told index ≡ telling policy

-- an entry more, last, in the list of a domain
abbrev pub noting_in : ℕ → Label → ℕ → Told → Told
noting_in number label place x =
    record x {
      domains = changed_at number
          (λ (d : Listed × ℕ). (noting label place d.0, d.1)) x.domains;
    }

-- a domain has so many permissions
abbrev pub counting_in : ℕ → ℕ → Told → Told
counting_in number permissions x =
    record x { domains = changed_at number (λ (d : Listed × ℕ). (d.0, permissions)) x.domains }

-- the entry at a place is gone from the list of a domain, which has so many permissions then
abbrev pub closing_in : ℕ → ℕ → Told → Told
closing_in number place x =
    record x { domains = changed_at number (λ (d : Listed × ℕ). (closed place d.0, d.1)) x.domains }

-- a domain of this name without entries, made last
abbrev pub noting_domain : DomainName → ℕ → Told → Told
noting_domain name place x =
    record {
      domains = x.domains ++ (listing [], 0) ∷ [];
      groups = x.groups;
      live = with_place name place x.live;
    }

-- the first domain of a name is live no more
abbrev pub taking_live : DomainName → Told → Told
taking_live name x = record x { live = placing name (drop 1 (x.live name)) x.live }

-- a domain of that number is noted
abbrev pub HasDomain : Index → ℕ → Type 0
HasDomain index number = number < length index.domains

-- as many domains are noted as before
abbrev pub AsManyDomains : Index → Index → Type 0
AsManyDomains new old = length new.domains ≡ length old.domains

-- a namespace is noted at that place
abbrev pub HasNamespace : Index → ℕ → Type 0
HasNamespace index place = place < length index.groups

-- as many namespaces are noted as before
abbrev pub AsManyNamespaces : Index → Index → Type 0
AsManyNamespaces new old = length new.groups ≡ length old.groups
