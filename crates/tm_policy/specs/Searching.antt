-- A search, list by list.
use Rattle.std.specs.Prelude.{◌≡◌, ℕ, List, [], Option, Some, None, flat_map, option_map, unwrap_or}
use Rattle.tm_word.specs.Prelude.{Word, literal}
use Rattle.tm_rules.specs.Types.{Args, Entry, EntryPlace, Found, Groups, NamePlace, NameUnion, Proc, Request}
use Rattle.tm_rules.specs.Prelude.{at_key, first_of, found_of, grants, placed}

-- what is asked of entries: the request of a process under these groups, with another name in place
-- of an execute's path, where one is given
pub record Asked : Type 0 where
  pub groups : Groups
  pub process : Proc
  pub request : Request
  pub path : Option Word

-- the request with this name in place of its path; as it is where there is none
abbrev pub asked_as : Request → Option Word → Request
asked_as request None = request
asked_as request (Some path) = record request { args = Args.Path (NameUnion.One (literal path)) }

-- the request that is asked for
abbrev pub asked_request : Asked → Request
asked_request asked = asked_as asked.request asked.path

-- whether an entry grants it, and where its first name is found
abbrev pub granted_by : Asked → Entry → Option NamePlace
granted_by asked entry = grants asked.groups asked.process (asked_request asked) entry

-- the place in the domain's own list, or in that of an ACL group
abbrev pub place_in : Option ℕ → ℕ → EntryPlace
place_in None place = EntryPlace.Own place
place_in (Some group) place = EntryPlace.Acl group place

-- what is found first among these entries
abbrev pub found_in : Asked → List (EntryPlace × Entry) → Option Found
found_in asked entries =
    option_map found_of (first_of asked.groups asked.process (asked_request asked) entries)

-- the entries of these ACL groups, group by group
abbrev pub acl_entries : List (ℕ × List Entry) → List (ℕ × Unit {0}) → List (EntryPlace × Entry)
acl_entries lists members =
    flat_map (λ (member : ℕ × Unit {0}). placed (EntryPlace.Acl member.0) 0
    (unwrap_or (at_key lists member.0) [])) members

-- a search knows the list of each ACL group
abbrev pub KnowsGroups : (Option ℕ → List Entry → Type 0) → List (ℕ × List Entry) → Type 0
KnowsGroups Knows lists =
    (number : ℕ) (entries : List Entry) → at_key lists number ≡ Some entries
    → Knows (Some number) entries
