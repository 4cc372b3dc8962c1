-- Places by key.
use Rattle.std.specs.Prelude.{ℕ, List, [], ◌∷◌, ◌++◌, if◌then◌else◌, unwrap_or, nat_lt, ◌-◌, ◌==◌, not, map, filter}
use Rattle.std.specs.Map.{lookup}
use Rattle.tm_word.specs.Prelude.{Text, texts_equal}

-- the places of each key
abbrev pub Places : Type 0
Places = Text → List ℕ

-- the places that these pairs have for a key
unfoldable pub places_at : List (Text × List ℕ) → Places
places_at pairs key = unwrap_or (lookup (texts_equal key) pairs) []

-- other places of a key
abbrev pub placing : Text → List ℕ → Places → Places
placing key list places name = if texts_equal name key then list else places name

-- one more place of a key, last
abbrev pub with_place : Text → ℕ → Places → Places
with_place key place places = placing key (places key ++ place ∷ []) places

-- a list without its last element
abbrev pub front : {A : Type 0} → List A → List A
front [] = []
front (x ∷ []) = []
front (x ∷ y ∷ ys) = x ∷ front (y ∷ ys)

-- where a place is after what stood at another one is gone
abbrev pub lowered : ℕ → ℕ → ℕ
lowered place there = if nat_lt place there then there - 1 else there

-- the places after what stood at one is gone
abbrev pub closing : ℕ → List ℕ → List ℕ
closing place places = map (lowered place) (filter (λ there. not (there == place)) places)
