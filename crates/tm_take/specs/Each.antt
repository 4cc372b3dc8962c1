-- Two lists beside each other.
use Rattle.std.specs.Prelude.{⊤, List, [], ◌∷◌}

-- P of each element and the one at its place in the other list, which is as long
abbrev pub EachWith : {A B : Type 0} → (A → B → Type 0) → List A → List B → Type 0
EachWith P [] [] = ⊤
EachWith P [] (y ∷ ys) = ⊥
EachWith P (x ∷ xs) [] = ⊥
EachWith P (x ∷ xs) (y ∷ ys) = P x y × EachWith P xs ys
