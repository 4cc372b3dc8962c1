-- Texts that are free of a byte, and how they are cut at it.
use Rattle.std.proofs.Common.{◌≡◌, ℕ, ◌+◌, ◌≤◌, ◌==◌, Bool, true, false, ◌||◌, List, [], ◌∷◌, ◌++◌, length, Some, None, refl, ap, ◌∙◌, arith}
use Rattle.std.specs.List.{list_any, position, position_from, slice_split, onto_first}
use Rattle.std.specs.Char.{digit_value}
use Rattle.std.specs.Str.Parse.{AllDigits}
use Rattle.std.proofs.lemmas.Bool.{ne_eqb}
use Rattle.std.proofs.lemmas.List.Splits.{slice_split-cons_no, slice_split-cons_yes}
use Rattle.std.proofs.lemmas.Iterator.Adapters.{position_from-zero}

-- no byte of the text is this one
abbrev pub Free : ℕ → List ℕ → Type 0
Free c [] = Unit {0}
Free c (x ∷ xs) = ((x == c) ≡ false) × Free c xs

pub free_append : (c : ℕ) (xs ys : List ℕ) → Free c xs → Free c ys → Free c (xs ++ ys)
free_append c [] ys h k = k
free_append c (x ∷ xs) ys h k = (h.0, free_append c xs ys h.1 k)

-- a byte that is no digit of the radix is none of its digits
pub free_digits : (c radix : ℕ) (ds : List ℕ) → radix ≤ digit_value c → AllDigits radix ds → Free c ds
free_digits c radix [] h k = tt
free_digits c radix (d ∷ ds) h k = (ne_eqb d c (λ e. absurd (omega (arith, h, k.0, ap digit_value e))), free_digits c radix ds h k.1)

pub none_free : (c : ℕ) (xs : List ℕ) → Free c xs → list_any (λ b. b == c) xs ≡ false
none_free c [] h = refl
none_free c (x ∷ xs) h = rw h.0 (none_free c xs h.1)

-- the byte itself is there
pub some_at : (c : ℕ) (xs ys : List ℕ) → (c == c) ≡ true → list_any (λ b. b == c) (xs ++ c ∷ ys) ≡ true
some_at c [] ys e = rw e refl
some_at c (x ∷ xs) ys e = by_test (x == c) (list_any (λ b. b == c) (xs ++ c ∷ ys)) (some_at c xs ys e)
  where
    by_test : (a b : Bool) → b ≡ true → (a || b) ≡ true
    by_test true b h = refl
    by_test false b h = h

pub split_free : (c : ℕ) (xs : List ℕ) → Free c xs → slice_split (λ b. b == c) xs ≡ xs ∷ []
split_free c [] h = refl
split_free c (x ∷ xs) h = slice_split-cons_no (λ b. b == c) x xs h.0 ∙ ap (onto_first x) (split_free c xs h.1)

pub split_at : (c : ℕ) (xs ys : List ℕ) → (c == c) ≡ true → Free c xs → slice_split (λ b. b == c) (xs ++ c ∷ ys) ≡ xs ∷ slice_split (λ b. b == c) ys
split_at c [] ys e h = slice_split-cons_yes (λ b. b == c) c ys e
split_at c (x ∷ xs) ys e h = slice_split-cons_no (λ b. b == c) x (xs ++ c ∷ ys) h.0 ∙ ap (onto_first x) (split_at c xs ys e h.1)

uncut_from : (c : ℕ) (xs : List ℕ) (i : ℕ) → Free c xs → position_from (λ b. b == c) i xs ≡ None
uncut_from c [] i h = refl
uncut_from c (x ∷ xs) i h = rw h.0 (uncut_from c xs (i + 1) h.1)

pub place_none : (c : ℕ) (xs : List ℕ) → Free c xs → position (λ b. b == c) xs ≡ None
place_none c xs h = position_from-zero (λ b. b == c) xs ∙ uncut_from c xs 0 h

cut_from : (c : ℕ) (xs ys : List ℕ) (i : ℕ) → (c == c) ≡ true → Free c xs → position_from (λ b. b == c) i (xs ++ c ∷ ys) ≡ Some (i + length xs)
cut_from c [] ys i e h = rw e (ap Some (omega arith))
cut_from c (x ∷ xs) ys i e h = rw h.0 (cut_from c xs ys (i + 1) e h.1 ∙ ap Some (omega arith))

pub place_at : (c : ℕ) (xs ys : List ℕ) → (c == c) ≡ true → Free c xs → position (λ b. b == c) (xs ++ c ∷ ys) ≡ Some (length xs)
place_at c xs ys e h = position_from-zero (λ b. b == c) (xs ++ c ∷ ys) ∙ cut_from c xs ys 0 e h ∙ ap Some (omega arith)
