-- An IPv4 address that is written is read again.
use Rattle.std.proofs.Common.{◌≡◌, ℕ, ◌+◌, ◌*◌, ◌/◌, ◌%◌, ◌<◌, ◌≤◌, ◌^◌, ◌==◌, nat_lt, true, false, List, [], ◌∷◌, ◌++◌, Some, refl, ap, ◌∙◌, arith}
use Rattle.std.specs.List.{slice_split}
use Rattle.std.specs.Fmt.{decimal}
use Rattle.std.specs.Char.{digit_value}
use Rattle.std.proofs.lemmas.Fmt.{decimal_is_IsNumeral}
use Rattle.tm_number.proofs.NumberLaws.{plain_again}
use Rattle.tm_addr.specs.Reading.{octet_of, quad_of, v4_at, v4_of}
use Rattle.tm_addr.specs.Printing.{v4_spelling}
use Rattle.tm_addr.proofs.Free.{Free, free_append, free_digits, split_free, split_at}

pub decimal_free : (c n : ℕ) → 10 ≤ digit_value c → n < 256 → Free c (decimal n)
decimal_free c n h small = free_digits c 10 (decimal n) h (decimal_is_IsNumeral n (omega (arith, small))).0.1

octet_again : (n : ℕ) → n < 256 → octet_of (decimal n) ≡ Some n
octet_again n small = plain_again 256 n small (omega (arith, small))

four_pieces : (w x y z : List ℕ) → Free 46 w → Free 46 x → Free 46 y → Free 46 z → slice_split (λ b. b == 46) (w ++ 46 ∷ (x ++ 46 ∷ (y ++ 46 ∷ z))) ≡ w ∷ x ∷ y ∷ z ∷ []
four_pieces w x y z a b c d =
    split_at 46 w (x ++ 46 ∷ (y ++ 46 ∷ z)) refl a
    ∙ ap (λ ps. w ∷ ps) (split_at 46 x (y ++ 46 ∷ z) refl b ∙ ap (λ ps. x ∷ ps) (split_at 46 y z refl c ∙ ap (λ ps. y ∷ ps) (split_free 46 z d)))

quad_again : (w x y z : ℕ) → w < 256 → x < 256 → y < 256 → z < 256 → v4_of (decimal w ++ 46 ∷ (decimal x ++ 46 ∷ (decimal y ++ 46 ∷ decimal z))) ≡ Some (((w * 256 + x) * 256 + y) * 256 + z)
unfolding v4_of quad_of
quad_again w x y z a b c d =
    let free = λ (n : ℕ) (lt : n < 256). decimal_free 46 n (omega arith) lt in
    let cuts = four_pieces (decimal w) (decimal x) (decimal y) (decimal z) (free w a) (free x b) (free y c) (free z d) in
    ap v4_at cuts ∙ rw (octet_again w a, octet_again x b, octet_again y c, octet_again z d) refl

octets_are : (a : ℕ) → a < 4294967296 → ((a / 16777216 * 256 + a / 65536 % 256) * 256 + a / 256 % 256) * 256 + a % 256 ≡ a
octets_are a h = omega arith

pub v4_again : (a : ℕ) → a < 2 ^ 32 → v4_of (v4_spelling a) ≡ Some a
unfolding v4_spelling
v4_again a h =
    quad_again (a / 16777216) (a / 65536 % 256) (a / 256 % 256) (a % 256) (omega (arith, h)) (omega arith) (omega arith) (omega arith)
    ∙ ap Some (octets_are a (omega (arith, h)))

join_free : (c : ℕ) (xs ys : List ℕ) → (46 == c) ≡ false → Free c xs → Free c ys → Free c (xs ++ 46 ∷ ys)
join_free c xs ys k h l = free_append c xs (46 ∷ ys) h (k, l)

pub v4_free : (c a : ℕ) → 10 ≤ digit_value c → (46 == c) ≡ false → a < 2 ^ 32 → Free c (v4_spelling a)
unfolding v4_spelling
v4_free c a h k small =
    let d = λ (n : ℕ) (lt : n < 256). decimal_free c n h lt in
    let w = a / 16777216 in
    let x = a / 65536 % 256 in
    let y = a / 256 % 256 in
    let z = a % 256 in
    join_free c (decimal w) (decimal x ++ 46 ∷ (decimal y ++ 46 ∷ decimal z)) k (d w (omega (arith, small)))
    (join_free c (decimal x) (decimal y ++ 46 ∷ decimal z) k (d x (omega arith)) (join_free c (decimal y) (decimal z) k (d y (omega arith)) (d z (omega arith))))
