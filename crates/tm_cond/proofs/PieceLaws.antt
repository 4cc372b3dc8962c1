-- Pieces of a word: what is put together is taken apart.
use Rattle.std.proofs.Common.{◌≡◌, ℕ, ◌+◌, ◌-◌, ◌<◌, ◌==◌, nat_lt, Bool, true, false, cond, ◌&&◌, List, [], ◌∷◌, ◌++◌, length, get_or, take, Option, Some, None, Ok, Err, refl, sym, ap, subst, ◌∙◌, arith, eq-eqb}
use Rattle.std.specs.Prelude.{option_map, option_and_then}
use Rattle.std.specs.Option.{option_or}
use Rattle.std.proofs.lemmas.Bool.{eqb-true, ltb-true, lt-ltb}
use Rattle.std.proofs.Math.Seq.{take-append_seam, get_or-append_seam, take-length}
use Rattle.std.proofs.lemmas.List.{length-append, take_more}
use Rattle.tm_word.specs.Prelude.{Text, after, named, texts_equal}
use Rattle.tm_rules.specs.Types.{LineKind}
use Rattle.tm_rules.proofs.EqualityLaws.{same_texts}
use Rattle.tm_cond.specs.Attributes.{or_wrong, ends_in, without_last, quoted}

-- ---- options

pub some_is : {A : Type 0} (x y : A) → Some x ≡ Some y → x ≡ y
some_is x y e = cc

pub or_wrong_ok : {A : Type 0} (o : Option A) (x : A) → or_wrong o ≡ Ok x → o ≡ Some x
or_wrong_ok (Some y) x e = cc
or_wrong_ok None x e = absurd cc

pub then_some : {A B : Type 0} (f : A → Option B) (o : Option A) (y : B) → option_and_then f o ≡ Some y → (x : A) × (o ≡ Some x) × (f x ≡ Some y)
then_some f (Some x) y e = (x, refl, e)
then_some f None y e = absurd cc

pub map_some : {A B : Type 0} (f : A → B) (o : Option A) (y : B) → option_map f o ≡ Some y → (x : A) × (o ≡ Some x) × (f x ≡ y)
map_some f (Some x) y e = (x, refl, cc)
map_some f None y e = absurd cc

-- one of both is there
pub either_some : {A : Type 0} (P : A → Type 0) (o p : Option A) (y : A) → option_or o p ≡ Some y → (o ≡ Some y → P y) → (p ≡ Some y → P y) → P y
either_some P (Some x) p y e f g = f e
either_some P None p y e f g = g e

-- ---- a front

pub after_found : (front text rest : Text) → after front text ≡ Some rest → text ≡ front ++ rest
after_found [] text rest e = some_is text rest e
after_found (a ∷ front) [] rest e = absurd cc
after_found (a ∷ front) (b ∷ text) rest e = by_test (after_found front text rest) (a == b) refl e
  where
    by_test : (after front text ≡ Some rest → text ≡ front ++ rest) → (t : Bool) → (a == b) ≡ t → cond t (after front text) None ≡ Some rest → b ∷ text ≡ a ∷ (front ++ rest)
    by_test more true h f = let tail = more f in let head : a ≡ b = eqb-true a b h in rw (head, tail) refl
    by_test more false h f = absurd cc

-- ---- a last byte

less_one : (text : Text) (byte : ℕ) → length (text ++ byte ∷ []) - 1 ≡ length text
less_one text byte = let e = length-append text (byte ∷ []) in omega (arith, e)

ends : (text : Text) (byte : ℕ) → get_or (text ++ byte ∷ []) (length (text ++ byte ∷ []) - 1) 0 ≡ byte
ends text byte = rw (less_one text byte) (get_or-append_seam text byte [] 0)

fronts : (text : Text) (byte : ℕ) → take (length (text ++ byte ∷ []) - 1) (text ++ byte ∷ []) ≡ text
fronts text byte = rw (less_one text byte) (take-append_seam text (byte ∷ []))

not_empty : (text : Text) (byte : ℕ) → nat_lt 0 (length (text ++ byte ∷ [])) ≡ true
not_empty text byte = let e = length-append text (byte ∷ []) in lt-ltb 0 (length (text ++ byte ∷ [])) (omega (arith, e))

pub without_last_again : (byte : ℕ) (text : Text) → without_last byte (text ++ byte ∷ []) ≡ Some text
unfolding without_last
without_last_again byte text = rw (not_empty text byte, ends text byte, eq-eqb byte byte refl) (ap Some (fronts text byte))

pub without_last_other : (byte other : ℕ) (text : Text) → (other == byte) ≡ false → without_last byte (text ++ other ∷ []) ≡ None
unfolding without_last
without_last_other byte other text h = rw (not_empty text other, ends text other, h) refl

both : (a b : Bool) → (a && b) ≡ true → (a ≡ true) × (b ≡ true)
both true b e = (refl, e)
both false b e = absurd cc

last_of : (text : Text) → 0 < length text → text ≡ take (length text - 1) text ++ get_or text (length text - 1) 0 ∷ []
last_of text h =
    let whole : length text - 1 + 1 ≡ length text = omega (arith, h) in
    let within : length text - 1 < length text = omega (arith, h) in
    sym (take-length text) ∙ ap (λ n. take n text) (sym whole) ∙ take_more text (length text - 1) 0 within

pub without_last_found : (byte : ℕ) (text front : Text) → without_last byte text ≡ Some front → text ≡ front ++ byte ∷ []
unfolding without_last
without_last_found byte text front e = by_test (ends_in byte text) refl e
  where
    by_test : (t : Bool) → ends_in byte text ≡ t → cond t (Some (take (length text - 1) text)) None ≡ Some front → text ≡ front ++ byte ∷ []
    by_test false h f = absurd cc
    by_test true h f =
        let split = both (nat_lt 0 (length text)) (get_or text (length text - 1) 0 == byte) h in
        let is : get_or text (length text - 1) 0 ≡ byte = eqb-true (get_or text (length text - 1) 0) byte split.1 in
        let same : take (length text - 1) text ≡ front = some_is (take (length text - 1) text) front f in
        last_of text (ltb-true 0 (length text) split.0) ∙ ap (λ b. take (length text - 1) text ++ b ∷ []) is ∙ ap (λ t. t ++ byte ∷ []) same

-- ---- double quotes

pub quoted_again : (inner : Text) → quoted (34 ∷ (inner ++ 34 ∷ [])) ≡ Ok inner
quoted_again inner = rw (without_last_again 34 inner) refl

pub quoted_found : (text inner : Text) → quoted text ≡ Ok inner → text ≡ 34 ∷ (inner ++ 34 ∷ [])
quoted_found [] inner e = absurd cc
quoted_found (b ∷ text) inner e = by_test (b == 34) refl e
  where
    by_test : (t : Bool) → (b == 34) ≡ t → cond t (or_wrong (without_last 34 text)) (Err LineKind.Condition) ≡ Ok inner → b ∷ text ≡ 34 ∷ (inner ++ 34 ∷ [])
    by_test false h f = absurd cc
    by_test true h f =
        let head : b ≡ 34 = eqb-true b 34 h in
        let tail = without_last_found 34 text inner (or_wrong_ok (without_last 34 text) inner f) in
        rw (head, tail) refl

-- ---- tables

abbrev pub AllRows : {A : Type 0} → (Text → A → Type 0) → List (Text × A) → Type 0
AllRows P [] = Unit {0}
AllRows P (row ∷ table) = P row.0 row.1 × AllRows P table

-- what a table gives is one of its rows
pub named_fits : {A : Type 0} (P : Text → A → Type 0) (table : List (Text × A)) (text : Text) (x : A) → AllRows P table → named table text ≡ Some x → P text x
named_fits P [] text x rows e = absurd cc
named_fits P (row ∷ table) text x rows e = by_test (named_fits P table text x rows.1) (texts_equal text row.0) refl e
  where
    by_test : (named table text ≡ Some x → P text x) → (t : Bool) → texts_equal text row.0 ≡ t → cond t (Some row.1) (named table text) ≡ Some x → P text x
    by_test more true h f =
        let key : text ≡ row.0 = same_texts.sound text row.0 h in
        subst (λ t. P t x) (sym key) (subst (P row.0) (some_is row.1 x f) rows.0)
    by_test more false h f = more f
