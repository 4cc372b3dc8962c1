-- A text of bytes that stand for themselves spells itself.
use Rattle.std.specs.Prelude.{◌≡◌, ℕ, ◌+◌, ◌/◌, ◌%◌, ◌<◌, ◌==◌, nat_lt, ◌&&◌, not, if◌then◌else◌, Bool, true, false, [], ◌∷◌, ◌++◌, take, drop, length, refl, Ok}
use Rattle.std.proofs.Common.{ap, ◌∙◌, sym, rules}
use Rattle.std.proofs.lemmas.Bool.Decides.{nat_tests}
use Rattle.std.proofs.lemmas.Grind.{flat_map-append}
use Rattle.std.proofs.lemmas.List.{take_more, append-nil, append_assoc}
use Rattle.std.proofs.Math.Seq.{take-add}
use Rattle.std.proofs.Common.{get_or}
use Rattle.tm_word.specs.Prelude.{Text, are_bytes, are_own_spellings, is_own_spelling, spell, spelling_of, word_of}
use Rattle.tm_word.proofs.Spelled.{read_again}

both : (a b : Bool) → (a && b) ≡ true → (a ≡ true) × (b ≡ true)
both true b e = (refl, e)
both false b e = absurd cc

own : (byte : ℕ) → is_own_spelling byte ≡ true → spelling_of byte ≡ byte ∷ []
own byte h = go (byte == 92) (nat_lt 32 byte) (nat_lt byte 127) h
  where
    go : (back above below : Bool) → (not back && above && below) ≡ true →
        (if back then 92 ∷ 92 ∷ [] else (if above && below then byte ∷ [] else 92 ∷ (48 + byte / 64) ∷ (48 + byte / 8 % 8) ∷ (48 + byte % 8) ∷ [])) ≡ byte ∷ []
    go true above below e = absurd cc
    go false true true e = refl
    go false true false e = absurd cc
    go false false below e = absurd cc

low : (byte : ℕ) → nat_lt byte 127 ≡ true → nat_lt byte 256 ≡ true
low byte h = search (rules, nat_tests)

own_byte : (byte : ℕ) → is_own_spelling byte ≡ true → nat_lt byte 256 ≡ true
own_byte byte h = low byte (both (not (byte == 92) && nat_lt 32 byte) (nat_lt byte 127) h).1

pub own_spelled : (text : Text) → are_own_spellings text ≡ true → spell text ≡ text
own_spelled [] h = refl
own_spelled (b ∷ text) h =
    let t = both (is_own_spelling b) (are_own_spellings text) h in
    ap (λ (front : Text). front ++ spell text) (own b t.0) ∙ ap (λ (rest : Text). b ∷ rest) (own_spelled text t.1)

own_bytes : (text : Text) → are_own_spellings text ≡ true → are_bytes text ≡ true
own_bytes [] h = refl
own_bytes (b ∷ text) h =
    let t = both (is_own_spelling b) (are_own_spellings text) h in
    rw (own_byte b t.0) (own_bytes text t.1)

pub own_word : (text : Text) → are_own_spellings text ≡ true → word_of text ≡ Ok text
own_word text h = ap word_of (sym (own_spelled text h)) ∙ read_again text (own_bytes text h)

-- a front of bytes that stand for themselves, and the byte after it
front_spelled : (text : Text) (n : ℕ) → n < length text → are_own_spellings (take n text) ≡ true →
    spell (take (n + 1) text) ≡ take n text ++ spelling_of (get_or text n 0)
front_spelled text n inside own =
    ap spell (take_more text n 0 inside) ∙ flat_map-append spelling_of (take n text) (get_or text n 0 ∷ [])
    ∙ rw (own_spelled (take n text) own, append-nil (spelling_of (get_or text n 0))) refl

-- the same behind what stands before
pub front_pushed : (before text : Text) (n : ℕ) → n < length text → are_own_spellings (take n text) ≡ true →
    (before ++ take n text) ++ spelling_of (get_or text n 0) ≡ before ++ spell (take (n + 1) text)
front_pushed before text n inside own =
    append_assoc before (take n text) (spelling_of (get_or text n 0)) ∙ ap (λ (t : Text). before ++ t) (sym (front_spelled text n inside own))

-- the next so many bytes of a text go on where those before end
pub pieces_pushed : (before text : Text) (n m : ℕ) →
    (before ++ spell (take n text)) ++ spell (take m (drop n text)) ≡ before ++ spell (take (n + m) text)
pieces_pushed before text n m =
    append_assoc before (spell (take n text)) (spell (take m (drop n text)))
    ∙ ap (λ (t : Text). before ++ t) (sym (ap spell (take-add n m text) ∙ flat_map-append spelling_of (take n text) (take m (drop n text))))
