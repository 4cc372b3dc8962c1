-- What is found first at lists of places.
use Rattle.std.specs.Prelude.{ℕ, Bool, false, List, [], ◌∷◌, Option, Some, None, if◌then◌else◌, nat_lt, option_map, get_or, take, ◌==◌}
use Rattle.std.specs.List.{list_any}
use Rattle.tm_word.specs.Prelude.{Text, Word}
use Rattle.tm_rules.specs.Types.{Entry, NamePlace}
use Rattle.tm_rules.specs.Prelude.{first_of_all}
use Rattle.tm_policy.specs.Searching.{Asked, granted_by}
use Rattle.tm_index.specs.Buckets.{Places}
use Rattle.tm_index.specs.Listing.{at_place, has_name, has_stem}

-- the place of an entry that grants what is asked, with the place of the name that matched
abbrev pub granted : Asked → ℕ → Entry → Option (ℕ × NamePlace)
granted asked place entry = option_map (λ name. (place, name)) (granted_by asked entry)

-- what is found first at these places
abbrev pub first_at : Asked → List Entry → List ℕ → Option (ℕ × NamePlace)
first_at asked entries places = first_of_all (at_place (granted asked) entries) places

-- the one at the smaller place
abbrev pub sooner : {B : Type 0} → Option (ℕ × B) → Option (ℕ × B) → Option (ℕ × B)
sooner None y = y
sooner (Some x) None = Some x
sooner (Some x) (Some y) = if nat_lt y.0 x.0 then Some y else Some x

-- the soonest of what was found and of what is found first at each of these lists of places
abbrev pub soonest : Asked → List Entry → Option (ℕ × NamePlace) → List (List ℕ)
    → Option (ℕ × NamePlace)
soonest asked entries found [] = found
soonest asked entries found (places ∷ lists) =
    soonest asked entries (sooner found (first_at asked entries places)) lists

-- the sooner of what was found and of what is found first at the places of the bytes before this
-- one, where it is a slash
abbrev pub sooner_at : Asked → List Entry → Places → Word → ℕ → Option (ℕ × NamePlace)
    → Option (ℕ × NamePlace)
sooner_at asked entries places name end found =
    if get_or name end 0 == 47 then sooner found
    (first_at asked entries (places (take end name))) else found

-- the places of a name; none without a name
abbrev pub places_named : Places → Option Word → List ℕ
places_named places None = []
places_named places (Some name) = places name

-- an entry of that name
abbrev pub is_wanted : Option Word → Entry → Bool
is_wanted None entry = false
is_wanted (Some name) entry = has_name name entry

-- an entry of one of these stems
abbrev pub has_some_stem : List Text → Entry → Bool
has_some_stem stems entry = list_any (λ stem. has_stem stem entry) stems
