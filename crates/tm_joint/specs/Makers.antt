-- Whose steps are whose: each pass makes the steps of its makers, and counts them.
use Rattle.std.specs.Prelude.{◌≡◌, ⊤, ℕ, suc, Bool, false, List, [], ◌∷◌, Option, Some, None, ◌==◌, length, flat_map, sum_by}
use Rattle.std.specs.Option.{option_map_or}
use Rattle.std.specs.List.{AllByRecursion}
use Rattle.tm_rules.specs.Types.{Made, Maker}
use Rattle.tm_rules.specs.Prelude.{numbered}
use Rattle.tm_legal.specs.Prelude.{RisesFrom, times}
use Rattle.tm_made.specs.Made.{numbers_from}

-- these numbers rise and name steps whose makers belong to pass i
abbrev pub Claims : (Maker → Option ℕ) → ℕ → List Made → List ℕ → Type 0
Claims who i list numbers =
    RisesFrom 0 numbers
    × AllByRecursion
    (λ n. (made : Made) × (numbered list n ≡ Some made) × (who made.maker ≡ Some i)) numbers

-- of each pass, from pass i on
abbrev pub EachClaims : (Maker → Option ℕ) → ℕ → List Made → List (List ℕ) → Type 0
EachClaims who i list [] = ⊤
EachClaims who i list (numbers ∷ passes) =
    Claims who i list numbers × EachClaims who (suc i) list passes

-- the maker belongs to pass i
abbrev pub belongs : (Maker → Option ℕ) → ℕ → Made → Bool
belongs who i made = option_map_or (λ owner. owner == i) (who made.maker) false

-- the numbers of the steps whose makers belong to pass i
abbrev pub owned : (Maker → Option ℕ) → ℕ → List Made → List ℕ
owned who i list = numbers_from 1 (belongs who i) list

-- each pass has made just the steps of its makers
abbrev pub EachIsOwned : (Maker → Option ℕ) → ℕ → List Made → List (List ℕ) → Type 0
EachIsOwned who i list [] = ⊤
EachIsOwned who i list (numbers ∷ passes) =
    (numbers ≡ owned who i list) × EachIsOwned who (suc i) list passes

-- 1 for an element that is there
abbrev pub times_made : Option Made → ℕ
times_made None = 0
times_made (Some made) = 1

-- where the passes have made as many steps as there are, each has made just those of its makers,
-- and each number is one pass's
abbrev pub PassesOwnTheirSteps : Type 0
PassesOwnTheirSteps =
    (who : Maker → Option ℕ) (list : List Made) (passes : List (List ℕ))
    → EachClaims who 0 list passes
    → length list ≡ sum_by (λ (numbers : List ℕ). length numbers) passes
    → EachIsOwned who 0 list passes
    × ((n : ℕ) → times n (flat_map (λ (numbers : List ℕ). numbers) passes) ≡ times_made (numbered list n))
