-- A list with one place changed.
use Rattle.std.proofs.Common.{◌≡◌, ◌≤◌, ◌<◌, ℕ, zero, suc, List, [], ◌∷◌, length, Some, refl, sym, ap, ◌∙◌, arith}
use Rattle.std.specs.Prelude.{slice_get, slice_set, slice_index_or}
use Rattle.tm_rules.specs.Prelude.{changed_at}

pub changed_same : {A : Type 0} (f : A → A) (xs : List A) (k : ℕ) (x : A) → slice_get xs k ≡ Some x → slice_get (changed_at k f xs) k ≡ Some (f x)
changed_same f [] k x e = absurd cc
changed_same f (y ∷ xs) zero x e = let same : y ≡ x = cc in ap (λ z. Some (f z)) same
changed_same f (y ∷ xs) (suc k) x e = changed_same f xs k x e

pub changed_other : {A : Type 0} (f : A → A) (xs : List A) (j k : ℕ) → (j ≡ k → ⊥) → slice_get (changed_at j f xs) k ≡ slice_get xs k
changed_other f [] j k ne = refl
changed_other f (x ∷ xs) zero zero ne = absurd (ne refl)
changed_other f (x ∷ xs) zero (suc k) ne = refl
changed_other f (x ∷ xs) (suc j) zero ne = refl
changed_other f (x ∷ xs) (suc j) (suc k) ne = changed_other f xs j k (λ e. ne (ap suc e))

pub changed_past : {A : Type 0} (f : A → A) (xs : List A) (k : ℕ) → length xs ≤ k → changed_at k f xs ≡ xs
changed_past f [] k h = refl
changed_past f (x ∷ xs) zero h = absurd (omega (arith, h))
changed_past f (x ∷ xs) (suc k) h = ap (λ ys. x ∷ ys) (changed_past f xs k (omega (arith, h)))

-- a store at a place that is there
pub changed_set : {A : Type 0} (f : A → A) (xs : List A) (k : ℕ) (x : A) → k < length xs → x ≡ slice_index_or xs k x → slice_set xs k (f x) ≡ changed_at k f xs
changed_set f [] k x h is = absurd (omega (arith, h))
changed_set f (y ∷ xs) zero x h is = ap (λ z. f z ∷ xs) is
changed_set f (y ∷ xs) (suc k) x h is = ap (λ ys. y ∷ ys) (changed_set f xs k x (omega (arith, h)) is)
