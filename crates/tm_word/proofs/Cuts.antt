-- A text that is cut at the first byte of a kind.
use Rattle.std.proofs.Common.{◌≡◌, ℕ, ◌+◌, ◌<◌, Bool, true, false, cond, nat_lt, List, [], ◌∷◌, length, take, drop, Some, None, refl, sym, ap, subst, ◌∙◌, arith}
use Rattle.std.specs.List.{position, position_from, position_or_len, slice_split, onto_first}
use Rattle.std.proofs.lemmas.Bool.{ltb-true}
use Rattle.std.proofs.lemmas.List.Splits.{slice_split-cons_no, slice_split-cons_yes, slice_split_first}
use Rattle.std.proofs.lemmas.Iterator.Adapters.{position_from-zero}

some_of : (b : Bool) (n k : ℕ) → cond b (Some n) None ≡ Some k → (b ≡ true) × (n ≡ k)
some_of true n k e = (refl, cc)
some_of false n k e = absurd cc

pub cut_some : (p : ℕ → Bool) (xs : List ℕ) (k : ℕ) → position p xs ≡ Some k → (slice_split p xs ≡ take k xs ∷ slice_split p (drop (k + 1) xs)) × (k < length xs)
cut_some p xs k e =
    let found = some_of (nat_lt (position_or_len p xs) (length xs)) (position_or_len p xs) k e in
    let place : position_or_len p xs ≡ k = found.1 in
    let within : position_or_len p xs < length xs = ltb-true _ _ found.0 in
    (subst (λ i. slice_split p xs ≡ take i xs ∷ slice_split p (drop (i + 1) xs)) place (slice_split_first p xs 0 within), omega (arith, within, place))

none_cons : (p : ℕ → Bool) (x : ℕ) (xs : List ℕ) (i : ℕ) (b : Bool) → p x ≡ b → cond b (Some i) (position_from p (i + 1) xs) ≡ None → (position_from p (i + 1) xs ≡ None → slice_split p xs ≡ xs ∷ []) → slice_split p (x ∷ xs) ≡ (x ∷ xs) ∷ []
none_cons p x xs i true h e more = absurd cc
none_cons p x xs i false h e more = slice_split-cons_no p x xs h ∙ ap (onto_first x) (more e)

none_from : (p : ℕ → Bool) (xs : List ℕ) (i : ℕ) → position_from p i xs ≡ None → slice_split p xs ≡ xs ∷ []
none_from p [] i e = refl
none_from p (x ∷ xs) i e = none_cons p x xs i (p x) refl e (none_from p xs (i + 1))

pub cut_none : (p : ℕ → Bool) (xs : List ℕ) → position p xs ≡ None → slice_split p xs ≡ xs ∷ []
cut_none p xs e = none_from p xs 0 (sym (position_from-zero p xs) ∙ e)

-- there is always a first piece
pub record Pieces (p : ℕ → Bool) (xs : List ℕ) : Type 0 where
  pub first : List ℕ
  pub rest : List (List ℕ)
  pub are : slice_split p xs ≡ first ∷ rest

piece_cons : (p : ℕ → Bool) (x : ℕ) (xs : List ℕ) (b : Bool) → p x ≡ b → Pieces p xs → Pieces p (x ∷ xs)
piece_cons p x xs true h more = record { first = []; rest = slice_split p xs; are = slice_split-cons_yes p x xs h }
piece_cons p x xs false h more = record { first = x ∷ more.first; rest = more.rest; are = slice_split-cons_no p x xs h ∙ ap (onto_first x) more.are }

pub pieces_of : (p : ℕ → Bool) (xs : List ℕ) → Pieces p xs
pieces_of p [] = record { first = []; rest = []; are = refl }
pieces_of p (x ∷ xs) = piece_cons p x xs (p x) refl (pieces_of p xs)
