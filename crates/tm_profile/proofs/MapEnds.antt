-- A map that grows at its end.
use Rattle.std.proofs.Common.{◌≡◌, ℕ, ◌<◌, List, [], ◌∷◌, ◌++◌, Some, None, refl, ap, arith, eq-eqb}
use Rattle.std.proofs.lemmas.Bool.{lt-ltb, le-ltb, ne_eqb}
use Rattle.tm_list.specs.Map.{AllAbove, Rises, at_rank, put}

-- each key's rank is below n
abbrev pub Below : {K V : Type 0} → (K → ℕ) → ℕ → List (K × V) → Type 0
Below rank n [] = Unit {0}
Below rank n (e ∷ es) = (rank e.0 < n) × Below rank n es

above_at : {K V : Type 0} (rank : K → ℕ) (n : ℕ) (xs : List (K × V)) (e : K × V) (ys : List (K × V)) → AllAbove rank n (xs ++ e ∷ ys) → n < rank e.0
above_at rank n [] e ys h = h.0
above_at rank n (x ∷ xs) e ys h = above_at rank n xs e ys h.1

-- what stands before a key is below it
pub below_at : {K V : Type 0} (rank : K → ℕ) (xs : List (K × V)) (e : K × V) (ys : List (K × V)) → Rises rank (xs ++ e ∷ ys) → Below rank (rank e.0) xs
below_at rank [] e ys h = tt
below_at rank (x ∷ xs) e ys h = (above_at rank (rank x.0) xs e ys h.0, below_at rank xs e ys h.1)

pub put_last : {K V : Type 0} (rank : K → ℕ) (key : K) (value : V) (xs : List (K × V)) → Below rank (rank key) xs → put rank key value xs ≡ xs ++ (key, value) ∷ []
put_last rank key value [] h = refl
put_last rank key value (x ∷ xs) h = rw (lt-ltb _ _ h.0) (ap (λ t. x ∷ t) (put_last rank key value xs h.1))

pub at_none : {V : Type 0} (n : ℕ) (xs : List (ℕ × V)) → Below (λ k. k) n xs → at_rank (λ k. k) n xs ≡ None
at_none n [] h = refl
at_none n (x ∷ xs) h = rw (ne_eqb x.0 n (λ e. absurd (omega (arith, e, h.0)))) (at_none n xs h.1)

pub at_last : {V : Type 0} (n : ℕ) (value : V) (xs : List (ℕ × V)) → Below (λ k. k) n xs → at_rank (λ k. k) n (xs ++ (n, value) ∷ []) ≡ Some value
at_last n value [] h = rw (eq-eqb n n refl) refl
at_last n value (x ∷ xs) h = rw (ne_eqb x.0 n (λ e. absurd (omega (arith, e, h.0)))) (at_last n value xs h.1)

pub put_again : {V : Type 0} (n : ℕ) (old new : V) (xs : List (ℕ × V)) → Below (λ k. k) n xs → put (λ k. k) n new (xs ++ (n, old) ∷ []) ≡ xs ++ (n, new) ∷ []
put_again n old new [] h = rw (le-ltb n n (omega arith), eq-eqb n n refl) refl
put_again n old new (x ∷ xs) h = rw (lt-ltb _ _ h.0) (ap (λ t. x ∷ t) (put_again n old new xs h.1))
