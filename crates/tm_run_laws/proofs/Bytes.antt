-- Printed texts are made of bytes.
use Rattle.std.proofs.Common.{◌≡◌, ℕ, zero, suc, ◌/◌, ◌%◌, ◌<◌, ◌==◌, nat_lt, nat_le, Bool, true, false, cond, ◌||◌, not, List, [], ◌∷◌, ◌++◌, refl, sym, ◌∙◌, arith}
use Rattle.std.specs.Prelude.{decimal}
use Rattle.std.specs.Fmt.{digits, digits_onto, digit_glyph}
use Rattle.std.specs.List.{list_all}
use Rattle.std.proofs.Math.Nat.{mod-lt}
use Rattle.std.proofs.lemmas.Bool.{lt-ltb, leb-false}
use Rattle.std.proofs.lemmas.List.Folds.{list_all-append}
use Rattle.tm_word.specs.Prelude.{Text, are_bytes, is_separator, is_solid, is_word, joined}
use Rattle.tm_line.proofs.Steps.{both, all}

pub bytes-append : (xs ys : Text) → are_bytes xs ≡ true → are_bytes ys ≡ true → are_bytes (xs ++ ys) ≡ true
bytes-append xs ys h k = list_all-append (λ b. nat_lt b 256) xs ys ∙ all (are_bytes xs) (are_bytes ys) h k

pub bytes-parts : (xs ys : Text) → are_bytes (xs ++ ys) ≡ true → (are_bytes xs ≡ true) × (are_bytes ys ≡ true)
bytes-parts xs ys h = both (are_bytes xs) (are_bytes ys) (sym (list_all-append (λ b. nat_lt b 256) xs ys) ∙ h)

-- ---- decimals

glyph_small : (d : ℕ) → d < 10 → nat_lt (digit_glyph false d) 256 ≡ true
glyph_small d h =
    let low : nat_lt d 10 ≡ true = lt-ltb d 10 h in
    rw low (lt-ltb _ _ (omega (arith, h)))

onto_bytes : (k n : ℕ) (acc : Text) → are_bytes acc ≡ true → are_bytes (digits_onto k 10 false n acc) ≡ true
onto_bytes zero n acc h = h
onto_bytes (suc k) n acc h =
    let next : Text = digit_glyph false (n % 10) ∷ acc in
    let here : are_bytes next ≡ true = all (nat_lt (digit_glyph false (n % 10)) 256) (are_bytes acc) (glyph_small (n % 10) (mod-lt n (omega arith))) h in
    by_test (n / 10 == 0) next (digits_onto k 10 false (n / 10) next) here (onto_bytes k (n / 10) next here)
  where
    by_test : (b : Bool) (one other : Text) → are_bytes one ≡ true → are_bytes other ≡ true → are_bytes (cond b one other) ≡ true
    by_test true one other h k = h
    by_test false one other h k = k

pub decimal-bytes : (n : ℕ) → are_bytes (decimal n) ≡ true
unfolding digits
decimal-bytes n = onto_bytes 64 n [] refl

-- ---- words

byte_by : (b : ℕ) (low high : Bool) → nat_le 127 b ≡ high → not (low || high) ≡ true → nat_lt b 256 ≡ true
byte_by b true high e h = absurd cc
byte_by b false true e h = absurd cc
byte_by b false false e h = lt-ltb b 256 (omega (arith, leb-false 127 b e))

pub solid-bytes : (text : Text) → is_solid text ≡ true → are_bytes text ≡ true
solid-bytes [] h = refl
solid-bytes (b ∷ text) h =
    let t = both (not (is_separator b)) (is_solid text) h in
    all (nat_lt b 256) (are_bytes text) (byte_by b (nat_le b 32) (nat_le 127 b) refl t.0) (solid-bytes text t.1)

pub joined-bytes : (words : List Text) → list_all is_word words ≡ true → are_bytes (joined words) ≡ true
joined-bytes [] h = refl
joined-bytes (w ∷ []) h = solid-bytes w (solid w (both (is_word w) true h).0)
  where
    solid : (w : Text) → is_word w ≡ true → is_solid w ≡ true
    solid w k = (both _ (is_solid w) k).1
joined-bytes (w ∷ v ∷ words) h =
    let t = both (is_word w) (list_all is_word (v ∷ words)) h in
    bytes-append w (32 ∷ joined (v ∷ words)) (solid-bytes w (solid w t.0)) (joined-bytes (v ∷ words) t.1)
  where
    solid : (w : Text) → is_word w ≡ true → is_solid w ≡ true
    solid w k = (both _ (is_solid w) k).1
