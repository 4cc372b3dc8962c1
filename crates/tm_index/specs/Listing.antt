-- The index of one list of entries.
use Rattle.std.specs.Prelude.{ℕ, suc, Bool, false, ◌&&◌, not, List, [], ◌∷◌, ◌++◌, Option, Some, None, if◌then◌else◌, ◌==◌, is_some, slice_get, bit_and}
use Rattle.std.specs.Option.{option_or, option_and_then, option_map_or}
use Rattle.tm_word.specs.Prelude.{Text, Word, texts_equal}
use Rattle.tm_rules.specs.Types.{Entry}
use Rattle.tm_rules.specs.Prelude.{same_line}
use Rattle.tm_index.specs.Buckets.{Places, places_at, with_place, closing}
use Rattle.tm_index.specs.Stems.{stem_of}
use Rattle.tm_index.specs.Names.{literal_of}
use Rattle.tm_index.specs.Labels.{line_key}
use Rattle.tm_index.specs.declared.label.Label.{Label}
use Rattle.tm_index.specs.declared.list.ListIndex.{ListIndex}

-- the places, from this one on, of the elements that pass
abbrev pub places_from : {A : Type 0} → (A → Bool) → ℕ → List A → List ℕ
places_from test n [] = []
places_from test n (x ∷ xs) =
    if test x then n ∷ places_from test (suc n) xs else places_from test (suc n) xs

-- where the entries of a list stand: by their literal name, those without one, by their stem, those
-- with neither, and by the words of their lines
pub record Listed : Type 0 where
  pub named : Places
  pub others : List ℕ
  pub stemmed : Places
  pub rest : List ℕ
  pub lines : Places

-- what an index tells
abbrev pub listed : ListIndex → Listed
listed index =
    record {
      named = places_at index.named;
      others = index.others;
      stemmed = places_at index.stemmed;
      rest = index.rest;
      lines = places_at index.lines;
    }

-- it is this name
abbrev pub has_name : Word → Entry → Bool
has_name name entry = option_map_or (texts_equal name) (literal_of entry.args) false

-- it has no literal name
abbrev pub has_no_name : Entry → Bool
has_no_name entry = not (is_some (literal_of entry.args))

-- it has this stem
abbrev pub has_stem : Text → Entry → Bool
has_stem stem entry = option_map_or (texts_equal stem) (stem_of entry.args) false

-- it has neither a stem nor a literal name
abbrev pub has_neither : Entry → Bool
has_neither entry = not (is_some (option_or (stem_of entry.args) (literal_of entry.args)))

-- its line has these words
abbrev pub has_key : Text → Entry → Bool
has_key key entry = texts_equal key (line_key entry)

-- where the entries of this list stand
unfoldable pub listing : List Entry → Listed
listing entries = record {
  named = λ name. places_from (has_name name) 0 entries;
  others = places_from has_no_name 0 entries;
  stemmed = λ stem. places_from (has_stem stem) 0 entries;
  rest = places_from has_neither 0 entries;
  lines = λ key. places_from (has_key key) 0 entries;
}

-- one more place of a name
abbrev pub with_name : Option Word → ℕ → Places → Places
with_name None place places = places
with_name (Some name) place places = with_place name place places

-- one more place without a name
abbrev pub with_other : Option Word → ℕ → List ℕ → List ℕ
with_other None place places = places ++ place ∷ []
with_other (Some name) place places = places

-- one more place of a name, or without one
abbrev pub noting_name : Option Word → ℕ → Listed → Listed
noting_name name place x =
    record x { named = with_name name place x.named; others = with_other name place x.others }

-- one more place of a stem, or with neither
abbrev pub noting_stem : Option Word → Option Text → ℕ → Listed → Listed
noting_stem name stem place x =
    record x {
      stemmed = with_name stem place x.stemmed;
      rest = with_other (option_or stem name) place x.rest;
    }

-- one more place of the words of a line
abbrev pub noting_line : Text → ℕ → Listed → Listed
noting_line key place x = record x { lines = with_place key place x.lines }

-- one more place of a stem and of a line
abbrev pub noting_rest : Label → ℕ → Listed → Listed
noting_rest label place x = noting_stem label.name label.stem place (noting_line label.key place x)

-- an entry more, last
unfoldable pub noting : Label → ℕ → Listed → Listed
noting label place x = noting_name label.name place (noting_rest label place x)

-- the entry at a place is gone
unfoldable pub closed : ℕ → Listed → Listed
closed place x = record {
  named = λ name. closing place (x.named name);
  others = closing place x.others;
  stemmed = λ stem. closing place (x.stemmed stem);
  rest = closing place x.rest;
  lines = λ key. closing place (x.lines key);
}

-- what the element at a place has
abbrev pub at_place : {A B : Type 0} → (ℕ → A → Option B) → List A → ℕ → Option B
at_place f xs place = option_and_then (f place) (slice_get xs place)

-- the element at a place passes
abbrev pub holds_at : {A : Type 0} → (A → Bool) → List A → ℕ → Bool
holds_at test xs place = option_map_or test (slice_get xs place) false

-- an entry has all of a line
abbrev pub has_all : Entry → Entry → Bool
has_all line entry =
    same_line entry line && bit_and entry.perms.bits line.perms.bits == line.perms.bits
