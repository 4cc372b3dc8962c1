-- The entries whose first name argument is a literal, and the others.
use Rattle.std.specs.Prelude.{ℕ, Bool, false, ◌&&◌, not, List}
use Rattle.std.specs.Option.{option_map_or}
use Rattle.tm_word.specs.Prelude.{Word, matches}
use Rattle.tm_rules.specs.Types.{Args, Entry}
use Rattle.tm_rules.specs.Prelude.{is_literal}
use Rattle.tm_index.specs.Names.{first_pattern}
use Rattle.tm_index.specs.Listing.{places_from}

-- the first name argument is a literal that matches this name
abbrev pub is_named : Word → Args → Bool
is_named name args =
    option_map_or (λ pattern_. is_literal pattern_ && matches pattern_ name)
    (first_pattern args) false

-- the first name argument is a literal
abbrev pub is_literally_named : Args → Bool
is_literally_named args = option_map_or is_literal (first_pattern args) false

-- the places of the entries whose first name argument is a literal that matches this name
unfoldable pub literal_places : Word → List Entry → List ℕ
literal_places name entries = places_from (λ (entry : Entry). is_named name entry.args) 0 entries

-- the places of the entries that have no name argument, or a first one that is no literal
unfoldable pub other_places : List Entry → List ℕ
other_places entries =
    places_from (λ (entry : Entry). not (is_literally_named entry.args)) 0 entries
