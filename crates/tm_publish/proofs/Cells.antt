-- Cells of a book.
use Rattle.std.proofs.Common.{◌≡◌, ℕ, zero, suc, ◌+◌, ◌<◌, ◌==◌, Bool, true, false, ◌⊎◌, inl, inr, ⊎_elim, List, [], ◌∷◌, ◌++◌, length, refl, sym, arith}
use Rattle.std.specs.Prelude.{slice_set}
use Rattle.std.proofs.lemmas.Bool.Decides.{nat_tests}
use prog.Atomic.{either}
use Rattle.logbook.specs.Pages.{Cell, cell}

pub set_same : (cs : List Cell) (i : ℕ) (c : Cell) → i < length cs → cell (slice_set cs i c) i ≡ c
set_same [] i c lt = absurd (omega arith)
set_same (x ∷ xs) zero c lt = refl
set_same (x ∷ xs) (suc i) c lt = set_same xs i c (omega arith)

-- what is at home stays so
pub set_home : (cs : List Cell) (i j n : ℕ) → (cell cs j).1 ≡ true → (cell (slice_set cs i (n, true)) j).1 ≡ true
set_home [] i j n e = e
set_home (x ∷ xs) zero zero n e = refl
set_home (x ∷ xs) zero (suc j) n e = e
set_home (x ∷ xs) (suc i) zero n e = e
set_home (x ∷ xs) (suc i) (suc j) n e = set_home xs i j n e

pub snoc_home : (cs : List Cell) (c : Cell) (j : ℕ) → (cell cs j).1 ≡ true → (cell (cs ++ c ∷ []) j).1 ≡ true
snoc_home [] c j e = absurd (cc e)
snoc_home (x ∷ xs) c zero e = e
snoc_home (x ∷ xs) c (suc j) e = snoc_home xs c j e

pub set_first : (cs : List Cell) (i : ℕ) (c : Cell) → 0 < i → cell (slice_set cs i c) 0 ≡ cell cs 0
set_first [] i c lt = refl
set_first (x ∷ xs) zero c lt = absurd (omega arith)
set_first (x ∷ xs) (suc i) c lt = refl

pub snoc_first : (cs : List Cell) (c : Cell) → 0 < length cs → cell (cs ++ c ∷ []) 0 ≡ cell cs 0
snoc_first [] c lt = absurd (omega arith)
snoc_first (x ∷ xs) c lt = refl

-- what is away is not the first word, which is at home
pub away_above : (cs : List Cell) (k : ℕ) → (cell cs 0).1 ≡ true → (cell cs k).1 ≡ false → 0 < k
away_above cs zero e f = absurd (cc (e, f))
away_above cs (suc k) e f = omega arith

pub either_same : (n old : ℕ) (b : Bool) → (n == old) ≡ b → either b old n ≡ n
either_same n old true e = (let same : n ≡ old = grind (arith, nat_tests) in sym same)
either_same n old false e = refl

pub either_next : (n old : ℕ) (b : Bool) → (n == old) ≡ b → n ≡ old → either b (old + 1) n ≡ suc n
either_next n old true e same = omega arith
either_next n old false e same = absurd (grind (arith, nat_tests))

pub either_else : (n new k : ℕ) (b : Bool) → (n == 0) ≡ b → n ≡ suc k → either b new n ≡ n
either_else n new k true e other = (let same : n ≡ 0 = grind (arith, nat_tests) in absurd (omega arith))
either_else n new k false e other = refl

module _ {E : Type 0} where
  pub not_nil : (xs ys : List E) (y : E) → [] ≡ xs ++ y ∷ ys → ⊥
  not_nil [] ys y e = cc e
  not_nil (x ∷ xs) ys y e = cc e

  -- an entry of a list that is one longer is the last one, or one of the list's
  pub snoc_split : (log xs ys : List E) (e y : E) → log ++ e ∷ [] ≡ xs ++ y ∷ ys → (xs ≡ log) ⊎ ((zs : List E) × (log ≡ xs ++ y ∷ zs))
  snoc_split [] [] ys e y is = inl refl
  snoc_split [] (x ∷ xs) ys e y is = absurd (not_nil xs ys y (cc is))
  snoc_split (l ∷ ls) [] ys e y is = inr (ls, cc is)
  snoc_split (l ∷ ls) (x ∷ xs) ys e y is =
      let head : x ≡ l = cc is in
      let tail : ls ++ e ∷ [] ≡ xs ++ y ∷ ys = cc is in
      ⊎_elim
      (λ (same : xs ≡ ls). inl (cc (head, same)))
      (λ (r : (zs : List E) × (ls ≡ xs ++ y ∷ zs)). inr (r.0, (let t = r.1 in cc (head, t))))
      (snoc_split ls xs ys e y tail)
