-- The lists that a domain is searched in, and their indexes.
use Rattle.std.specs.Prelude.{ℕ, List, [], Option, Some, None, unwrap_or}
use Rattle.std.specs.Option.{option_map_or}
use Rattle.tm_rules.specs.Types.{Domain, Entry, Found, NamePlace, Policy}
use Rattle.tm_rules.specs.Prelude.{acl_group, domain_at, namespace_of}
use Rattle.tm_policy.specs.Searching.{place_in}
use Rattle.tm_index.specs.declared.list.ListIndex.{ListIndex}
use Rattle.tm_index.specs.Listing.{Listed, listed}
use Rattle.tm_index.specs.Index.{groups_listed}

-- the entries of a list that a domain is searched in: its own for None, else those of an ACL group
-- of its namespace
abbrev pub list_in : Policy → Domain → Option ℕ → List Entry
list_in policy domain None = domain.entries
list_in policy domain (Some group) = acl_group (namespace_of policy domain) group

-- the same of the domain with that number
abbrev pub list_of : Policy → ℕ → Option ℕ → List Entry
list_of policy number group =
    option_map_or (λ (domain : Domain). list_in policy domain group) (domain_at policy number) []

-- what is noted of such a list
abbrev pub known : ListIndex → Option (List (ℕ × ListIndex)) → Option ℕ → Listed
known own groups None = listed own
known own groups (Some group) = groups_listed (unwrap_or groups []) group

-- what is found at a place of a list
abbrev pub found_in_list : Option ℕ → ℕ × NamePlace → Found
found_in_list group found = record { place = place_in group found.0; name = found.1 }
