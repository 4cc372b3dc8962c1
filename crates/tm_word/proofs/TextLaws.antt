-- The tests on texts.
use Rattle.std.proofs.Common.{◌≡◌, ◌+◌, ◌≤◌, ◌==◌, Bool, true, false, ◌&&◌, if◌then◌else◌, [], ◌∷◌, ◌++◌, length, take, drop, Some, None, refl, sym, ap, subst, ◌∙◌, eqb-true, eq-eqb, arith}
use Rattle.std.specs.Prelude.{◌↔◌, IsTrue}
use Rattle.tm_word.specs.Prelude.{Text, after, begins, texts_equal}

both : (a b : Bool) → (a && b) ≡ true → (a ≡ true) × (b ≡ true)
both true b e = (refl, e)
both false b e = absurd cc

-- equal texts pass the test, and no others do
pub texts_sound : (x y : Text) → texts_equal x y ≡ true → x ≡ y
texts_sound [] [] h = refl
texts_sound [] (b ∷ y) h = absurd cc
texts_sound (a ∷ x) [] h = absurd cc
texts_sound (a ∷ x) (b ∷ y) h =
    let parts = both (a == b) (texts_equal x y) h in
    ap (λ v. v ∷ x) (eqb-true a b parts.0) ∙ ap (λ t. b ∷ t) (texts_sound x y parts.1)

pub texts_full : (x : Text) → texts_equal x x ≡ true
texts_full [] = refl
texts_full (a ∷ x) = rw (eq-eqb a a refl, texts_full x) refl

pub texts_are_same : (r : Bool) (x y : Text) → IsTrue r ↔ (x ≡ y) → r ≡ texts_equal x y
texts_are_same true x y h = sym (subst (λ z. texts_equal x z ≡ true) (h.0 refl) (texts_full x))
texts_are_same false x y h = go (texts_equal x y) refl
  where
    go : (c : Bool) → texts_equal x y ≡ c → false ≡ texts_equal x y
    go false e = sym e
    go true e = let q : IsTrue false = h.1 (texts_sound x y e) in absurd cc

-- a front of a text is equal to as many of its bytes
pub begins_is : (front whole : Text) → length front ≤ length whole → begins front whole ≡ texts_equal front (take (length front) whole)
begins_is [] whole h = refl
begins_is (a ∷ front) [] h = absurd (omega (arith, h))
begins_is (a ∷ front) (b ∷ whole) h = ap (λ t. a == b && t) (begins_is front whole (omega (arith, h)))

pub begins_not : (front whole : Text) → length whole + 1 ≤ length front → begins front whole ≡ false
begins_not [] whole h = absurd (omega (arith, h))
begins_not (a ∷ front) [] h = refl
begins_not (a ∷ front) (b ∷ whole) h = rw (begins_not front whole (omega (arith, h))) (go (a == b))
  where
    go : (t : Bool) → (t && false) ≡ false
    go true = refl
    go false = refl

by_first : (t : Bool) (front text : Text) → after front text ≡ (if begins front text then Some (drop (length front) text) else None)
    → (if t then after front text else None) ≡ (if t && begins front text then Some (drop (length front) text) else None)
by_first true front text h = h
by_first false front text h = refl

-- what follows a front of a text
pub after_is : (front text : Text) → after front text ≡ (if begins front text then Some (drop (length front) text) else None)
after_is [] text = refl
after_is (a ∷ front) [] = refl
after_is (a ∷ front) (b ∷ text) = by_first (a == b) front text (after_is front text)

pub after_some : (front text : Text) → begins front text ≡ true → after front text ≡ Some (drop (length front) text)
after_some front text h = after_is front text ∙ rw h refl

pub after_none : (front text : Text) → begins front text ≡ false → after front text ≡ None
after_none front text h = after_is front text ∙ rw h refl
