-- Groups after `@`, and what stands in their place.
use Rattle.std.proofs.Common.{◌≡◌, ◌==◌, Bool, true, false, cond, [], ◌∷◌, Option, Some, None, Result, Ok, ◌⊎◌, inl, inr, refl, ap, subst, ◌∙◌}
use Rattle.std.proofs.lemmas.Bool.{eqb-true}
use Rattle.tm_word.specs.Prelude.{Text, Word, begins_with_byte, spell, spelled_word, ◌>>=◌}
use Rattle.tm_word.proofs.Spelled.{word_found, word_again, word_small}
use Rattle.tm_domain.specs.LineKind.{LineKind}
use Rattle.tm_line.specs.Arguments.{not_empty, group_word, group_or}
use Rattle.tm_line.specs.Written.{is_group}
use Rattle.tm_line.proofs.Steps.{bind_ok, done, ok_is}

abbrev IsFound : Text → Word → Type 0
IsFound text g = (text ≡ spell g) × (is_group g ≡ true)

found_from : (text : Text) (o : Option Word) (g : Word) → spelled_word text ≡ o → not_empty o ≡ done g → IsFound text g
found_from text None g h e = absurd cc
found_from text (Some []) g h e = absurd cc
found_from text (Some (b ∷ word)) g h e = subst (IsFound text) (ok_is (b ∷ word) g e) (word_found text (b ∷ word) h, word_small text (b ∷ word) h)

-- a group that is read is spelled so
pub group_found : (text : Text) (g : Word) → group_word text ≡ Ok g → (text ≡ spell g) × (is_group g ≡ true)
unfolding group_word
group_found text g e = found_from text (spelled_word text) g refl e

-- a group that is spelled is read
pub group_again : (g : Word) → is_group g ≡ true → group_word (spell g) ≡ Ok g
unfolding group_word
group_again [] h = absurd cc
group_again (b ∷ word) h = rw (word_again (b ∷ word) h) refl

pub or_again : {A : Type 0} (group : Word → A) (one : Text → Result A LineKind) (g : Word) → is_group g ≡ true → group_or group one (64 ∷ spell g) ≡ Ok (group g)
or_again group one g h = rw (group_again g h) refl

pub or_one : {A : Type 0} (group : Word → A) (one : Text → Result A LineKind) (text : Text) → begins_with_byte 64 text ≡ false → group_or group one text ≡ one text
or_one group one [] h = refl
or_one group one (b ∷ text) h = rw h refl

-- which of both it is
abbrev pub OneOf : {A : Type 0} → (Word → A) → (Text → Result A LineKind) → Text → A → Type 0
OneOf group one text x = ((g : Word) × (is_group g ≡ true) × (text ≡ 64 ∷ spell g) × (group g ≡ x)) ⊎ ((begins_with_byte 64 text ≡ false) × (one text ≡ Ok x))

pub or_found : {A : Type 0} (group : Word → A) (one : Text → Result A LineKind) (text : Text) (x : A) → group_or group one text ≡ Ok x → OneOf group one text x
or_found group one [] x e = inr (refl, e)
or_found group one (b ∷ text) x e = by_front (b == 64) refl e
  where
    by_front : (t : Bool) → (b == 64) ≡ t → cond t (group_word text >>= λ g. Ok (group g)) (one (b ∷ text)) ≡ Ok x → OneOf group one (b ∷ text) x
    by_front true at f =
        let g = bind_ok (group_word text) (λ g. Ok (group g)) x f in
        let is = group_found text g.0 g.1 in
        let whole : b ∷ text ≡ 64 ∷ spell g.0 = ap (λ c. c ∷ text) (eqb-true b 64 at) ∙ ap (λ t. 64 ∷ t) is.0 in
        inl (g.0, is.1, whole, ok_is (group g.0) x g.2)
    by_front false at f = inr (at, f)
