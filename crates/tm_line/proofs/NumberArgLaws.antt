-- Number arguments: what is written is read again, and what is read can be written.
use Rattle.std.proofs.Common.{◌≡◌, ℕ, ◌+◌, ◌<◌, ◌≤◌, ◌^◌, ◌==◌, nat_lt, nat_le, Bool, true, false, cond, ◌&&◌, List, [], ◌∷◌, ◌++◌, take, drop, Option, Some, None, Result, Ok, Err, inl, inr, refl, ap, subst, ◌∙◌, arith}
use Rattle.std.proofs.lemmas.Bool.{ne_eqb, ltb-true, lt-ltb, ltb-false, leb-true, le-leb}
use Rattle.std.proofs.lemmas.List.{append-nil}
use Rattle.std.proofs.lemmas.Fmt.{decimal_is_IsNumeral}
use Rattle.std.specs.Char.{digit_value}
use Rattle.std.specs.List.{position}
use Rattle.std.specs.Fmt.{decimal}
use Rattle.std.specs.Str.Parse.{IsNumeral}
use Rattle.tm_word.specs.Prelude.{Text, begins_with_byte}
use Rattle.tm_addr.specs.Base.{Base}
use Rattle.tm_addr.specs.Number.{Number}
use Rattle.tm_addr.specs.Range.{Range}
use Rattle.tm_addr.specs.NumberFault.{NumberFault}
use Rattle.tm_addr.specs.Numbers.{number_of, range, range_of, range_at, ends_of, spelling, range_spelling, same_base, plain_of}
use Rattle.tm_addr.proofs.NumberLaws.{number_small}
use Rattle.tm_addr.proofs.NumberLaws.{plain_small}
use Rattle.tm_addr.proofs.NumberLaws.{plain_again as decimal_again}
use Rattle.tm_addr.proofs.RangeLaws.{range_again}
use Rattle.tm_domain.specs.LineKind.{LineKind}
use Rattle.tm_domain.specs.NumberUnion.{NumberUnion}
use Rattle.tm_line.specs.Arguments.{range_word, one_number, number_word, number_at, plain_word}
use Rattle.tm_line.specs.Lines.{or_kind}
use Rattle.tm_line.specs.Printing.{number_spelling}
use Rattle.tm_line.specs.Written.{is_range, is_number}
use Rattle.tm_line.proofs.Steps.{bind_ok, ok_is, kinded_ok, both}
use Rattle.tm_line.proofs.GroupLaws.{or_again, or_one, or_found}

-- ---- ranges that are read

abbrev IsSmall : Result Number NumberFault → Type 0
IsSmall (Ok n) = n.value < 2 ^ 64
IsSmall (Err f) = Unit {0}

small_from : (text : Text) (r : Result Number NumberFault) → number_of text ≡ r → IsSmall r
small_from text (Ok n) e = number_small text n e
small_from text (Err f) e = tt

small : (text : Text) → IsSmall (number_of text)
small text = small_from text (number_of text) refl

abbrev range_done : Range → Result Range NumberFault
range_done r = Ok r

ordered : (low high : Number) (t : Bool) (r : Range) → nat_lt high.value low.value ≡ t → cond t (Err NumberFault.Backwards) (Ok (range low high)) ≡ range_done r → (low.value ≤ high.value) × (range low high ≡ r)
ordered low high true r e h = absurd cc
ordered low high false r e h = (ltb-false high.value low.value e, cc)

range_is : (r : Range) → r.low.value < 2 ^ 64 → r.high.value < 2 ^ 64 → r.low.value ≤ r.high.value → is_range r ≡ true
range_is r a b le = rw (lt-ltb _ _ a, lt-ltb _ _ b) (le-leb _ _ le)

ends_ok : (a b : Result Number NumberFault) (r : Range) → IsSmall a → IsSmall b → ends_of a b ≡ range_done r → is_range r ≡ true
ends_ok (Ok low) (Ok high) r sa sb e =
    let o = ordered low high (nat_lt high.value low.value) r refl e in
    subst (λ (q : Range). is_range q ≡ true) o.1 (range_is (range low high) sa sb o.0)
ends_ok (Ok low) (Err f) r sa sb e = absurd cc
ends_ok (Err NumberFault.NotANumber) b r sa sb e = absurd cc
ends_ok (Err NumberFault.TooBig) (Ok n) r sa sb e = absurd cc
ends_ok (Err NumberFault.TooBig) (Err NumberFault.NotANumber) r sa sb e = absurd cc
ends_ok (Err NumberFault.TooBig) (Err NumberFault.TooBig) r sa sb e = absurd cc
ends_ok (Err NumberFault.TooBig) (Err NumberFault.Backwards) r sa sb e = absurd cc
ends_ok (Err NumberFault.Backwards) (Ok n) r sa sb e = absurd cc
ends_ok (Err NumberFault.Backwards) (Err NumberFault.NotANumber) r sa sb e = absurd cc
ends_ok (Err NumberFault.Backwards) (Err NumberFault.TooBig) r sa sb e = absurd cc
ends_ok (Err NumberFault.Backwards) (Err NumberFault.Backwards) r sa sb e = absurd cc

range_ok : (cut : Option ℕ) (text : Text) (r : Range) → range_at cut text ≡ range_done r → is_range r ≡ true
range_ok None text r e = ends_ok (number_of text) (number_of text) r (small text) (small text) e
range_ok (Some k) text r e = ends_ok (number_of (take k text)) (number_of (drop (k + 1) text)) r (small (take k text)) (small (drop (k + 1) text)) e

range_right : (text : Text) (r : Range) → range_of text ≡ range_done r → is_range r ≡ true
unfolding range_of
range_right text r e = range_ok (position (λ b. b == 45) text) text r e

pub range_read : (text : Text) (r : Range) → range_word text ≡ Ok r → is_range r ≡ true
unfolding range_word
range_read text r e = range_right text r (kinded_ok LineKind.Number (range_of text) r e)

-- ---- a range's text doesn't begin with `@`

digits_front : (xs ys : List ℕ) → IsNumeral 10 xs → begins_with_byte 64 (xs ++ ys) ≡ false
digits_front [] ys h = absurd (omega (arith, h.0))
digits_front (d ∷ xs) ys h = ne_eqb d 64 (λ e. let low : digit_value 64 < 10 = subst (λ k. digit_value k < 10) e h.1.0 in absurd (omega (arith, low)))

spelling_front : (base : Base) (n : ℕ) (ys : List ℕ) → n < 2 ^ 64 → begins_with_byte 64 (spelling base n ++ ys) ≡ false
spelling_front Base.Decimal n ys low = digits_front (decimal n) ys (decimal_is_IsNumeral n low).0
spelling_front Base.Octal n ys low = refl
spelling_front Base.Hex n ys low = refl

front_by : (low high : List ℕ) (t : Bool) → ((ys : List ℕ) → begins_with_byte 64 (low ++ ys) ≡ false) → begins_with_byte 64 (cond t low (low ++ 45 ∷ high)) ≡ false
front_by low high true h = subst (λ x. begins_with_byte 64 x ≡ false) (append-nil low) (h [])
front_by low high false h = h (45 ∷ high)

pub range_front : (r : Range) → r.low.value < 2 ^ 64 → begins_with_byte 64 (range_spelling r) ≡ false
range_front r low =
    front_by (spelling r.low.base r.low.value) (spelling r.high.base r.high.value) (r.low.value == r.high.value && same_base r.low.base r.high.base) (λ ys. spelling_front r.low.base r.low.value ys low)

-- ---- arguments

pub record Ends (r : Range) : Type 0 where
  pub low : r.low.value < 2 ^ 64
  pub high : r.high.value < 2 ^ 64
  pub ordered : r.low.value ≤ r.high.value

pub ends : (r : Range) → is_range r ≡ true → Ends r
ends r h =
    let b = both (nat_lt r.low.value (2 ^ 64) && nat_lt r.high.value (2 ^ 64)) (nat_le r.low.value r.high.value) h in
    let a = both (nat_lt r.low.value (2 ^ 64)) (nat_lt r.high.value (2 ^ 64)) b.0 in
    record { low = ltb-true _ _ a.0; high = ltb-true _ _ a.1; ordered = leb-true _ _ b.1 }

pub range_written : (r : Range) → is_range r ≡ true → range_word (range_spelling r) ≡ Ok r
unfolding range_word
range_written r h = let is = ends r h in rw (range_again r is.low is.high is.ordered) refl

pub number_again : (n : NumberUnion) → is_number n ≡ true → number_word (number_spelling n) ≡ Ok n
unfolding number_word number_spelling is_number
number_again (NumberUnion.One r) h = or_one NumberUnion.Group one_number (range_spelling r) (range_front r (ends r h).low) ∙ rw (range_written r h) refl
number_again (NumberUnion.Group g) h = or_again NumberUnion.Group one_number g h

pub number_read : (text : Text) (n : NumberUnion) → number_word text ≡ Ok n → is_number n ≡ true
unfolding number_word is_number
number_read text n e =
    elim (or_found NumberUnion.Group one_number text n e) [
      | inl x ↦ subst (λ m. is_number m ≡ true) x.3 x.1
      | inr x ↦ let r = bind_ok (range_word text) (λ q. Ok (NumberUnion.One q)) n x.1 in subst (λ m. is_number m ≡ true) (ok_is (NumberUnion.One r.0) n r.2) (range_read text r.0 r.1)
    ]

-- ---- plain numbers

pub plain_again : (limit n : ℕ) → n < limit → n < 2 ^ 64 → plain_word limit (decimal n) ≡ Ok n
unfolding plain_word
plain_again limit n h k = ap (or_kind LineKind.Number) (decimal_again limit n h k)

there : (kind : LineKind) (o : Option ℕ) (n : ℕ) → or_kind kind o ≡ Ok n → o ≡ Some n
there kind None n e = absurd cc
there kind (Some m) n e = let same : m ≡ n = cc in ap Some same

pub plain_read : (limit : ℕ) (text : Text) (n : ℕ) → plain_word limit text ≡ Ok n → n < limit
unfolding plain_word
plain_read limit text n e = plain_small limit n text (there LineKind.Number (plain_of limit text) n e)

pub number_at_again : (n : NumberUnion) (more : List Text) → is_number n ≡ true → number_at (number_spelling n ∷ more) ≡ Ok (n, more)
unfolding number_at
number_at_again n more h = rw (number_again n h) refl

pub number_at_read : (words : List Text) (x : NumberUnion × List Text) → number_at words ≡ Ok x → is_number x.0 ≡ true
unfolding number_at
number_at_read [] x e = absurd cc
number_at_read (word ∷ words) x e =
    let n = bind_ok (number_word word) (λ m. Ok (m, words)) x e in
    let made : NumberUnion × List Text = (n.0, words) in
    let same : made ≡ x = ok_is made x n.2 in
    subst (λ (y : NumberUnion × List Text). is_number y.0 ≡ true) same (number_read word n.0 n.1)
