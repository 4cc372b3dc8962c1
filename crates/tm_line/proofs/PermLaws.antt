-- Lists of permissions: each set of a row is printed so that it is read again, and what is read is
-- a set of the row.
use Rattle.std.proofs.Common.{◌≡◌, ℕ, zero, suc, ◌+◌, ◌*◌, ◌^◌, ◌<◌, ◌≤◌, ◌==◌, nat_lt, Bool, true, false, cond, ◌&&◌, List, [], ◌∷◌, length, Option, Some, None, Ok, ◌⊎◌, inl, inr, refl, sym, ap, subst, ◌∙◌, arith}
use Rattle.std.specs.Prelude.{bit_or}
use Rattle.std.proofs.Math.Pow.{pow-lt}
use Rattle.std.proofs.Math.Nat.{one-le-pow}
use Rattle.std.proofs.lemmas.Grind.{pow_more}
use Rattle.std.proofs.lemmas.Nat.{or_lt, le_or_l, le_or_r}
use Rattle.std.proofs.lemmas.Bool.{eqb-true, ltb-true, lt-ltb}
use Rattle.tm_word.specs.Prelude.{Text, texts_equal}
use Rattle.tm_word.proofs.Cuts.{pieces_of as cut_of}
use Rattle.tm_line.specs.declared.permissions.Row.{Row}
use Rattle.tm_line.specs.Permissions.{names, mask_from, mask_in, pieces_of, with_mask, bits_of, finishes, bits_or_kind, perms_of, perm_on, perms_spelling}
use Rattle.tm_line.specs.Written.{is_set}
use Rattle.tm_line.proofs.Steps.{done, ok_is, both}

-- ---- by trying each set

abbrev is_bits : Option ℕ → ℕ → Bool
is_bits None bits = false
is_bits (Some n) bits = n == bits

abbrev is_again : Row → ℕ → Bool
is_again acl_row bits = is_bits (bits_of 0 acl_row (pieces_of (perms_spelling acl_row bits))) bits

bits_are : (o : Option ℕ) (bits : ℕ) → is_bits o bits ≡ true → o ≡ Some bits
bits_are None bits e = absurd cc
bits_are (Some n) bits e = ap Some (eqb-true n bits e)

-- a test passes at each number from 1 to n
unfoldable pub all_to : ℕ → (ℕ → Bool) → Bool
all_to zero p = true
all_to (suc n) p = p (suc n) && all_to n p

pub all_at : (n : ℕ) (p : ℕ → Bool) (k : ℕ) → all_to n p ≡ true → 0 < k → k ≤ n → p k ≡ true
unfolding all_to
all_at zero p k e low high = absurd (omega (arith, low, high))
all_at (suc n) p k e low high =
    let b = both (p (suc n)) (all_to n p) e in
    elim (last_or k n high) [ inl same ↦ subst (λ (i : ℕ). p i ≡ true) (sym same) b.0 | inr below ↦ all_at n p k b.1 low below ]
  where
    last_or : (k n : ℕ) → k ≤ suc n → (k ≡ suc n) ⊎ (k ≤ n)
    last_or k n h = grind arith

sending : all_to 3 (is_again Row.Sending) ≡ true
unfolding all_to perm_on
sending = refl

listening : all_to 7 (is_again Row.Listening) ≡ true
unfolding all_to perm_on
listening = refl

pair : all_to 7 (is_again Row.Pair) ≡ true
unfolding all_to perm_on
pair = refl

device : all_to 3 (is_again Row.Device) ≡ true
unfolding all_to perm_on
device = refl

path_number : all_to 255 (is_again Row.PathNumber) ≡ true
unfolding all_to perm_on
path_number = refl

path : all_to 2047 (is_again Row.Path) ≡ true
unfolding all_to perm_on
path = refl

set_again : (acl_row : Row) (bits : ℕ) → 0 < bits → bits < 2 ^ length (names acl_row) → is_again acl_row bits ≡ true
set_again Row.Path bits low high = all_at 2047 (is_again Row.Path) bits path low (omega (arith, high))
set_again Row.PathNumber bits low high = all_at 255 (is_again Row.PathNumber) bits path_number low (omega (arith, high))
set_again Row.Device bits low high = all_at 3 (is_again Row.Device) bits device low (omega (arith, high))
set_again Row.Pair bits low high = all_at 7 (is_again Row.Pair) bits pair low (omega (arith, high))
set_again Row.Listening bits low high = all_at 7 (is_again Row.Listening) bits listening low (omega (arith, high))
set_again Row.Sending bits low high = all_at 3 (is_again Row.Sending) bits sending low (omega (arith, high))

pub bits_again : (acl_row : Row) (bits : ℕ) → is_set acl_row bits ≡ true → bits_of 0 acl_row (pieces_of (perms_spelling acl_row bits)) ≡ Some bits
bits_again acl_row bits h =
    let b = both (nat_lt 0 bits) (nat_lt bits (2 ^ length (names acl_row))) h in
    bits_are (bits_of 0 acl_row (pieces_of (perms_spelling acl_row bits))) bits (set_again acl_row bits (ltb-true _ _ b.0) (ltb-true _ _ b.1))

pub perms_again : (acl_row : Row) (bits : ℕ) (last : Bool) → is_set acl_row bits ≡ true → perms_of acl_row (perms_spelling acl_row bits) last ≡ Ok bits
unfolding perms_of
perms_again acl_row bits last h = ap (λ o. bits_or_kind o (last && finishes acl_row (pieces_of (perms_spelling acl_row bits)))) (bits_again acl_row bits h)

-- ---- what is read is a set of the row

some_is : (x y : ℕ) → Some x ≡ Some y → x ≡ y
some_is x y e = cc

double : (k : ℕ) → 2 ^ k * 2 ≡ 2 ^ (k + 1)
double k = sym (pow_more 2 k)

abbrev FitsTo : ℕ → ℕ → Type 0
FitsTo width m = (0 < m) × (m < 2 ^ width)

mask_by : (k n m : ℕ) (t : Bool) (more : Option ℕ) → cond t (Some (2 ^ k)) more ≡ Some m → (more ≡ Some m → FitsTo (k + 1 + n) m) → FitsTo (k + suc n) m
mask_by k n m true more e go = subst (FitsTo (k + suc n)) (some_is (2 ^ k) m e) (one-le-pow k 2 (omega arith), pow-lt (omega arith))
mask_by k n m false more e go = let place : k + 1 + n ≡ k + suc n = omega arith in subst (λ i. FitsTo i m) place (go e)

-- a bit of some place below the end
mask_fits : (k : ℕ) (list : List Text) (piece : Text) (m : ℕ) → mask_from (2 ^ k) list piece ≡ Some m → FitsTo (k + length list) m
mask_fits k [] piece m e = absurd cc
mask_fits k (name ∷ more) piece m e =
    mask_by k (length more) m (texts_equal piece name) (mask_from (2 ^ k * 2) more piece) e
    (λ f. mask_fits (k + 1) more piece m (ap (λ i. mask_from i more piece) (sym (double k)) ∙ f))

abbrev width : Row → ℕ
width acl_row = length (names acl_row)

row_fits : (acl_row : Row) (piece : Text) (m : ℕ) → mask_in acl_row piece ≡ Some m → FitsTo (width acl_row) m
row_fits acl_row piece m e = let place : 0 + width acl_row ≡ width acl_row = omega arith in subst (λ i. FitsTo i m) place (mask_fits 0 (names acl_row) piece m e)

abbrev Grows : Row → ℕ → ℕ → Type 0
Grows acl_row before bits = (before ≤ bits) × (bits < 2 ^ width acl_row)

mask_grows : (before : ℕ) (acl_row : Row) (bits : ℕ) (o : Option ℕ) (more : ℕ → Option ℕ) → before < 2 ^ width acl_row → ((m : ℕ) → o ≡ Some m → FitsTo (width acl_row) m) → with_mask o before more ≡ Some bits
    → ((b : ℕ) → b < 2 ^ width acl_row → more b ≡ Some bits → Grows acl_row b bits) → (m : ℕ) × (o ≡ Some m) × Grows acl_row (bit_or before m) bits
mask_grows before acl_row bits None more low fits e go = absurd cc
mask_grows before acl_row bits (Some m) more low fits e go = (m, refl, go (bit_or before m) (or_lt (width acl_row) before m low (fits m refl).1) e)

le_trans : (a b c : ℕ) → a ≤ b → b ≤ c → a ≤ c
le_trans a b c h k = omega (arith, h, k)

bits_grow : (acl_row : Row) (pieces : List Text) (before bits : ℕ) → before < 2 ^ width acl_row → bits_of before acl_row pieces ≡ Some bits → Grows acl_row before bits
bits_grow acl_row [] before bits low e = subst (Grows acl_row before) (some_is before bits e) (omega arith, low)
bits_grow acl_row (piece ∷ pieces) before bits low e =
    let g = mask_grows before acl_row bits (mask_in acl_row piece) (λ b. bits_of b acl_row pieces) low (row_fits acl_row piece) e (λ b lt h. bits_grow acl_row pieces b bits lt h) in
    (le_trans before (bit_or before g.0) bits (le_or_l before g.0) g.2.0, g.2.1)

bits_set : (acl_row : Row) (piece : Text) (pieces : List Text) (bits : ℕ) → bits_of 0 acl_row (piece ∷ pieces) ≡ Some bits → is_set acl_row bits ≡ true
bits_set acl_row piece pieces bits e =
    let low : 0 < 2 ^ width acl_row = one-le-pow (width acl_row) 2 (omega arith) in
    let g = mask_grows 0 acl_row bits (mask_in acl_row piece) (λ b. bits_of b acl_row pieces) low (row_fits acl_row piece) e (λ b lt h. bits_grow acl_row pieces b bits lt h) in
    let first : 0 < g.0 = (row_fits acl_row piece g.0 g.1).0 in
    let some : 0 < bits = omega (arith, first, le_or_r 0 g.0, g.2.0) in
    rw (lt-ltb _ _ some) (lt-ltb _ _ g.2.1)

pub word_set : (acl_row : Row) (word : Text) (bits : ℕ) → bits_of 0 acl_row (pieces_of word) ≡ Some bits → is_set acl_row bits ≡ true
word_set acl_row word bits e = let p = cut_of (λ b. b == 47) word in bits_set acl_row p.first p.rest bits (ap (bits_of 0 acl_row) (sym p.are) ∙ e)

from_kind : (o : Option ℕ) (unfinished : Bool) (bits : ℕ) → bits_or_kind o unfinished ≡ done bits → o ≡ Some bits
from_kind None unfinished bits e = absurd cc
from_kind (Some n) unfinished bits e = ap Some (ok_is n bits e)

pub perms_read : (acl_row : Row) (word : Text) (last : Bool) (bits : ℕ) → perms_of acl_row word last ≡ Ok bits → is_set acl_row bits ≡ true
unfolding perms_of
perms_read acl_row word last bits e = word_set acl_row word bits (from_kind (bits_of 0 acl_row (pieces_of word)) (last && finishes acl_row (pieces_of word)) bits e)
