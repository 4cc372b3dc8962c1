-- Lists that are compared by what they weigh: two lists have the same items, each as often, where they weigh the same however the items are weighed.
use Rattle.std.specs.Prelude.{◌≡◌, ℕ, ◌+◌, ◌==◌, List, [], ◌∷◌, ◌⊎◌, if◌then◌else◌}

-- the weights of the items, added up
abbrev pub weigh : {J : Type 0} → (J → ℕ) → List J → ℕ
weigh h [] = 0
weigh h (x ∷ xs) = h x + weigh h xs

-- k where the two are the same, else 0
abbrev pub weight_at : ℕ → ℕ → ℕ → ℕ
weight_at x k y = if y == x then k else 0

-- how often x stands in the list
abbrev pub times : ℕ → List ℕ → ℕ
times x xs = weigh (weight_at x 1) xs

module _ {J : Type 0} where
  -- the same items, each as often
  abbrev pub WeighSame : List J → List J → Type 0
  WeighSame xs ys = (h : J → ℕ) → weigh h xs ≡ weigh h ys

  -- x stands in the list
  abbrev pub IsAmong : J → List J → Type 0
  IsAmong x [] = ⊥
  IsAmong x (y ∷ ys) = (x ≡ y) ⊎ IsAmong x ys
