-- Groups that are written one after another are read again.
use Rattle.std.proofs.Common.{◌≡◌, ℕ, zero, suc, ◌+◌, ◌*◌, ◌/◌, ◌%◌, ◌<◌, ◌≤◌, ◌^◌, ◌==◌, nat_le, Bool, true, false, cond, List, [], ◌∷◌, ◌++◌, length, map, Some, refl, sym, ap, ◌∙◌, arith, append_assoc, length-append, eq-eqb}
use Rattle.std.specs.List.{slice_split}
use Rattle.std.specs.Fmt.{digits, digits_onto, digit_glyph}
use Rattle.std.specs.Char.{digit_value}
use Rattle.std.specs.Str.Parse.{IsNumeral, digits_value}
use Rattle.std.proofs.lemmas.Fmt.{digits_is_IsNumeral}
use Rattle.std.proofs.lemmas.Bool.{le-leb}
use Rattle.std.proofs.lemmas.Grind.{pow_more}
use Rattle.tm_number.specs.Numbers.{is_numeral}
use Rattle.tm_number.proofs.NumberLaws.{numeral_to}
use Rattle.tm_addr.specs.declared.reading.Groups.{Groups}
use Rattle.tm_addr.specs.Reading.{◌>>=◌, no_groups, with_group, with_last, last_of, groups_after, few, side_of, group_of, is_gap, gap_at}
use Rattle.tm_addr.specs.Printing.{group_spelling, joined}
use Rattle.tm_addr.proofs.Free.{Free, free_append, free_digits, split_free, split_at}

-- ---- one group

longer_power : (m : ℕ) → 16 ^ (suc m + 1) ≡ 16 ^ (m + 1) * 16
longer_power m = ap_power (suc m + 1) (m + 1 + 1) (omega arith) ∙ pow_more 16 (m + 1)
  where
    ap_power : (i j : ℕ) → i ≡ j → 16 ^ i ≡ 16 ^ j
    ap_power i j e = ap (λ x. 16 ^ x) e

one_digit : (k n : ℕ) (acc : List ℕ) (b : Bool) → b ≡ true → length (cond b (digit_glyph false (n % 16) ∷ acc) (digits_onto k 16 false (n / 16) (digit_glyph false (n % 16) ∷ acc))) ≤ length acc + (0 + 1)
one_digit k n acc true e = omega arith
one_digit k n acc false e = absurd cc

more_digits : (k m n : ℕ) (acc : List ℕ) (b : Bool) → length (digits_onto k 16 false (n / 16) (digit_glyph false (n % 16) ∷ acc)) ≤ length (digit_glyph false (n % 16) ∷ acc) + (m + 1)
    → length (cond b (digit_glyph false (n % 16) ∷ acc) (digits_onto k 16 false (n / 16) (digit_glyph false (n % 16) ∷ acc))) ≤ length acc + (suc m + 1)
more_digits k m n acc true h = omega arith
more_digits k m n acc false h = omega (arith, h)

-- a number below 16^(m + 1) has m + 1 digits at most
short : (k m n : ℕ) (acc : List ℕ) → n < 16 ^ (m + 1) → m < k → length (digits_onto k 16 false n acc) ≤ length acc + (m + 1)
short zero m n acc h lt = absurd (omega (arith, lt))
short (suc k) zero n acc h lt = one_digit k n acc (n / 16 == 0) (eq-eqb (n / 16) 0 (omega (arith, h)))
short (suc k) (suc m) n acc h lt =
    more_digits k m n acc (n / 16 == 0) (short k m (n / 16) (digit_glyph false (n % 16) ∷ acc) (omega (arith, h, longer_power m)) (omega (arith, lt)))

pub group_short : (g : ℕ) → g < 65536 → length (group_spelling g) ≤ 4
unfolding digits
group_short g h = short 64 3 g [] (omega (arith, h)) (omega arith)

pub group_numeral : (g : ℕ) → g < 65536 → IsNumeral 16 (group_spelling g) × (digits_value 16 (group_spelling g) ≡ g)
group_numeral g h = digits_is_IsNumeral 16 false (omega arith) (omega arith) g (omega (arith, h))

pub group_again : (g : ℕ) → g < 65536 → group_of (group_spelling g) ≡ Some g
unfolding group_of
group_again g h =
    let is = group_numeral g h in
    let few_digits : nat_le (length (group_spelling g)) 4 ≡ true = le-leb _ _ (group_short g h) in
    let hex : is_numeral 16 (group_spelling g) ≡ true = numeral_to 16 (group_spelling g) is.0 in
    rw (few_digits, hex, is.1) refl

pub group_free : (c g : ℕ) → 16 ≤ digit_value c → g < 65536 → Free c (group_spelling g)
group_free c g h small = free_digits c 16 (group_spelling g) h (group_numeral g small).0.1

-- ---- groups in a row

abbrev pub Small : List ℕ → Type 0
Small [] = Unit {0}
Small (g ∷ gs) = (g < 65536) × Small gs

abbrev pub all_groups : Groups → List ℕ → Groups
all_groups before [] = before
all_groups before (g ∷ gs) = all_groups (with_group before g) gs

joined_pieces : (g : ℕ) (gs : List ℕ) → Small (g ∷ gs) → slice_split (λ b. b == 58) (joined (g ∷ gs)) ≡ map group_spelling (g ∷ gs)
joined_pieces g [] h = split_free 58 (group_spelling g) (group_free 58 g (omega arith) h.0)
joined_pieces g (n ∷ gs) h =
    split_at 58 (group_spelling g) (joined (n ∷ gs)) refl (group_free 58 g (omega arith) h.0) ∙ ap (λ ps. group_spelling g ∷ ps) (joined_pieces n gs h.1)

pieces_again : (dotted : Bool) (before : Groups) (g : ℕ) (gs : List ℕ) → Small (g ∷ gs) → groups_after dotted before (map group_spelling (g ∷ gs)) ≡ Some (all_groups before (g ∷ gs))
unfolding groups_after last_of
pieces_again dotted before g [] h = ap (with_last dotted before (group_spelling g)) (group_again g h.0)
pieces_again dotted before g (n ∷ gs) h =
    ap (λ o. o >>= λ group. groups_after dotted (with_group before group) (map group_spelling (n ∷ gs))) (group_again g h.0) ∙ pieces_again dotted (with_group before g) n gs h.1

pub count_all : (before : Groups) (gs : List ℕ) → (all_groups before gs).count ≡ before.count + length gs
count_all before [] = omega arith
count_all before (g ∷ gs) = count_all (with_group before g) gs ∙ omega arith

-- the joined text is not empty
joined_cons : (g : ℕ) (gs : List ℕ) → Small (g ∷ gs) → (c : ℕ) × (text : List ℕ) × (joined (g ∷ gs) ≡ c ∷ text) × ((c == 58) ≡ false)
joined_cons g [] h = cons_of (group_spelling g) (group_numeral g h.0).0.0 (group_free 58 g (omega arith) h.0)
  where
    cons_of : (xs : List ℕ) → 0 < length xs → Free 58 xs → (c : ℕ) × (text : List ℕ) × (xs ≡ c ∷ text) × ((c == 58) ≡ false)
    cons_of [] lt f = absurd (omega (arith, lt))
    cons_of (x ∷ xs) lt f = (x, xs, refl, f.0)
joined_cons g (n ∷ gs) h = cons_on (group_spelling g) (58 ∷ joined (n ∷ gs)) (group_numeral g h.0).0.0 (group_free 58 g (omega arith) h.0)
  where
    cons_on : (xs ys : List ℕ) → 0 < length xs → Free 58 xs → (c : ℕ) × (text : List ℕ) × (xs ++ ys ≡ c ∷ text) × ((c == 58) ≡ false)
    cons_on [] ys lt f = absurd (omega (arith, lt))
    cons_on (x ∷ xs) ys lt f = (x, xs ++ ys, refl, f.0)

side_cons : (dotted : Bool) (all : List ℕ) (c : ℕ) (text : List ℕ) → all ≡ c ∷ text → side_of dotted all ≡ few (groups_after dotted no_groups (slice_split (λ b. b == 58) all))
unfolding side_of
side_cons dotted all c text e = ap (side_of dotted) e ∙ ap (λ xs. few (groups_after dotted no_groups (slice_split (λ b. b == 58) xs))) (sym e)

few_again : (found : Groups) → found.count ≤ 8 → few (Some found) ≡ Some found
few_again found h = let yes : nat_le found.count 8 ≡ true = le-leb _ _ h in rw yes refl

pub side_again : (dotted : Bool) (gs : List ℕ) → Small gs → length gs ≤ 8 → side_of dotted (joined gs) ≡ Some (all_groups no_groups gs)
unfolding side_of
side_again dotted [] h le = refl
side_again dotted (g ∷ gs) h le =
    let cons = joined_cons g gs h in
    side_cons dotted (joined (g ∷ gs)) cons.0 cons.1 cons.2
    ∙ ap (λ ps. few (groups_after dotted no_groups ps)) (joined_pieces g gs h)
    ∙ ap few (pieces_again dotted no_groups g gs h)
    ∙ few_again (all_groups no_groups (g ∷ gs)) (omega (arith, count_all no_groups (g ∷ gs), le))

-- ---- where two colons stand side by side

no_gap : (x : ℕ) (xs : List ℕ) → (x == 58) ≡ false → is_gap (x ∷ xs) ≡ false
no_gap x [] h = refl
no_gap x (y ∷ xs) h = rw h refl

gap_free : (k : ℕ) (xs rest : List ℕ) → Free 58 xs → gap_at k (xs ++ rest) ≡ gap_at (k + length xs) rest
gap_free k [] rest h = ap (λ i. gap_at i rest) (omega arith)
gap_free k (x ∷ xs) rest h = rw (no_gap x (xs ++ rest) h.0) (gap_free (k + 1) xs rest h.1 ∙ ap (λ i. gap_at i rest) (omega arith))

gap_colon : (k c : ℕ) (text rest : List ℕ) → text ≡ c ∷ rest → (c == 58) ≡ false → gap_at k (58 ∷ text) ≡ gap_at (k + 1) text
gap_colon k c text rest e h =
    let none : is_gap (58 ∷ c ∷ rest) ≡ false = rw h refl in
    let all : is_gap (58 ∷ text) ≡ false = ap (λ xs. is_gap (58 ∷ xs)) e ∙ none in
    rw all refl

pub gap_joined : (k : ℕ) (gs tail : List ℕ) → Small gs → gap_at k (joined gs ++ tail) ≡ gap_at (k + length (joined gs)) tail
gap_joined k [] tail h = ap (λ i. gap_at i tail) (omega arith)
gap_joined k (g ∷ []) tail h = gap_free k (group_spelling g) tail (group_free 58 g (omega arith) h.0)
gap_joined k (g ∷ n ∷ gs) tail h =
    let cons = joined_cons n gs h.1 in
    let more = joined (n ∷ gs) in
    let here = group_spelling g in
    ap (gap_at k) (append_assoc here (58 ∷ more) tail)
    ∙ gap_free k here (58 ∷ (more ++ tail)) (group_free 58 g (omega arith) h.0)
    ∙ gap_colon (k + length here) cons.0 (more ++ tail) (cons.1 ++ tail) (ap (λ xs. xs ++ tail) cons.2) cons.3
    ∙ gap_joined (k + length here + 1) (n ∷ gs) tail h.1
    ∙ ap (λ i. gap_at i tail) (simp length-append (omega arith))

pub joined_free : (c : ℕ) (gs : List ℕ) → 16 ≤ digit_value c → (58 == c) ≡ false → Small gs → Free c (joined gs)
joined_free c [] h k small = tt
joined_free c (g ∷ []) h k small = group_free c g h small.0
joined_free c (g ∷ n ∷ gs) h k small = free_append c (group_spelling g) (58 ∷ joined (n ∷ gs)) (group_free c g h small.0) (k, joined_free c (n ∷ gs) h k small.1)
