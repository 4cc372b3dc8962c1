-- Preferences: what is written is read again, and what is read can be written.
use Rattle.std.proofs.Common.{◌≡◌, Bool, true, false, cond, ◌&&◌, not, List, [], ◌∷◌, ◌++◌, Option, Some, None, Ok, ◌⊎◌, inl, inr, refl, sym, subst}
use Rattle.std.specs.Prelude.{codes, is_some}
use Rattle.tm_word.specs.Prelude.{Text, begins_with_byte, texts_equal, ◌>>=◌}
use Rattle.tm_rules.specs.Types.{Args, LineKind, NameUnion, Prefer}
use Rattle.tm_rules.specs.Prelude.{is_domain_name}
use Rattle.tm_line.specs.Names.{is_path}
use Rattle.tm_line.specs.Arguments.{path_word, name_at}
use Rattle.tm_line.specs.Domains.{domain_at}
use Rattle.tm_line.specs.DomainWords.{domain_parts, ends_domain}
use Rattle.tm_line.specs.Written.{is_name}
use Rattle.tm_line.proofs.Steps.{bind_ok, ok_is, chosen, both, not_true, to_not}
use Rattle.std.proofs.lemmas.Bool.{eqb-true}
use Rattle.tm_line.specs.Printing.{name_spelling}
use Rattle.tm_line.proofs.NameArgLaws.{name_at_again, name_at_read}
use Rattle.tm_line.proofs.DomainLaws.{path_begins, domain_again, at_right, parts_begin}
use Rattle.tm_file.specs.Preferences.{turn_of, turn_or_place, prefer_at, with_prefer, path_at, prefer_words, is_prefer, no_prefer}

-- ---- preferences

no_some : {A : Type 0} (o : Option A) → is_some o ≡ false → o ≡ None
no_some None h = refl
no_some (Some x) h = absurd cc

record NoPrefer (word : Text) : Type 0 where
  turn : turn_of word ≡ None
  slash : begins_with_byte 47 word ≡ false
  angle : begins_with_byte 60 word ≡ false

no_prefer_is : (word : Text) (words : List Text) → no_prefer (word ∷ words) ≡ true → NoPrefer word
unfolding no_prefer
no_prefer_is word words h =
    let b = both (not (is_some (turn_of word)) && not (begins_with_byte 47 word)) (not (begins_with_byte 60 word)) h in
    let a = both (not (is_some (turn_of word))) (not (begins_with_byte 47 word)) b.0 in
    record { turn = no_some (turn_of word) (not_true _ a.0); slash = not_true _ a.1; angle = not_true _ b.1 }

-- such words don't go on with a domain name
pub ends_prefer : (more : List Text) → no_prefer more ≡ true → ends_domain more ≡ true
ends_prefer [] h = refl
ends_prefer (word ∷ words) h = to_not _ (no_prefer_is word words h).slash

pub none_again : (more : List Text) → no_prefer more ≡ true → prefer_at more ≡ Ok (None, more)
unfolding prefer_at
none_again [] h = refl
none_again (word ∷ words) h = let is = no_prefer_is word words h in rw (is.turn, is.slash, is.angle) refl

path_again : (path : Text) (more : List Text) → is_path path ≡ true → prefer_at (path ∷ more) ≡ Ok (Some (Prefer.Path path), more)
unfolding prefer_at path_word
path_again [] more h = let k : begins_with_byte 47 [] ≡ true = path_begins [] h in absurd cc
path_again (b ∷ path) more h =
    let front : b ≡ 47 = eqb-true b 47 (path_begins (b ∷ path) h) in
    subst (λ c. is_path (c ∷ path) ≡ true → prefer_at ((c ∷ path) ∷ more) ≡ Ok (Some (Prefer.Path (c ∷ path)), more)) (sym front) (λ k. rw k refl) h

angle_again : (word : Text) (paths more : List Text) (name : Text) → domain_at ((60 ∷ word) ∷ (paths ++ more)) ≡ Ok (name, more) → prefer_at ((60 ∷ word) ∷ (paths ++ more)) ≡ Ok (Some (Prefer.Domain name), more)
unfolding prefer_at
angle_again word paths more name e = rw e refl

domain_prefer : (name : Text) (more : List Text) → is_domain_name is_path name ≡ true → ends_domain more ≡ true → prefer_at (domain_parts name ++ more) ≡ Ok (Some (Prefer.Domain name), more)
domain_prefer name more h k =
    let b = parts_begin name h in
    let whole : domain_at (((60 ∷ b.rest) ∷ b.paths) ++ more) ≡ Ok (name, more) = subst (λ ws. domain_at (ws ++ more) ≡ Ok (name, more)) b.are (domain_again name more h k) in
    subst (λ ws. prefer_at (ws ++ more) ≡ Ok (Some (Prefer.Domain name), more)) (sym b.are) (angle_again b.rest b.paths more name whole)

pub prefer_again : (p : Prefer) (more : List Text) → is_prefer p ≡ true → no_prefer more ≡ true → prefer_at (prefer_words p ++ more) ≡ Ok (Some p, more)
unfolding prefer_at prefer_words is_prefer
prefer_again Prefer.Keep more h k = refl
prefer_again Prefer.Child more h k = refl
prefer_again Prefer.Initialize more h k = refl
prefer_again Prefer.Reset more h k = refl
prefer_again Prefer.Parent more h k = refl
prefer_again (Prefer.Path path) more h k = path_again path more h
prefer_again (Prefer.Domain name) more h k = domain_prefer name more h (ends_prefer more k)

-- ---- what is read can be written

abbrev IsRight : Option Prefer → Type 0
IsRight None = Unit {0}
IsRight (Some p) = is_prefer p ≡ true

choice : (b : Bool) (p : Prefer) (more : Option Prefer) → is_prefer p ≡ true → IsRight more → IsRight (cond b (Some p) more)
choice true p more h k = h
choice false p more h k = k

turn_right : (word : Text) → IsRight (turn_of word)
unfolding is_prefer
turn_right word =
    choice (texts_equal word (codes "keep")) Prefer.Keep _ refl (choice (texts_equal word (codes "child")) Prefer.Child _ refl
    (choice (texts_equal word (codes "initialize")) Prefer.Initialize _ refl (choice (texts_equal word (codes "reset")) Prefer.Reset _ refl (choice (texts_equal word (codes "parent")) Prefer.Parent _ refl tt))))

abbrev Found : Type 0
Found = Option Prefer × List Text

path_right : (word : Text) (words : List Text) (x : Found) → (path_word word >>= λ path. Ok (Some (Prefer.Path path), words)) ≡ Ok x → IsRight x.0
unfolding path_word is_prefer
path_right word words x e =
    let b = bind_ok (path_word word) (λ path. Ok (Some (Prefer.Path path), words)) x e in
    let is = chosen (is_path word) word b.0 LineKind.Name b.1 in
    let made : Found = (Some (Prefer.Path b.0), words) in
    subst (λ (y : Found). IsRight y.0) {x = made} (ok_is made x b.2) (subst (λ t. is_path t ≡ true) is.1 is.0)

domain_right : (words : List Text) (x : Found) → (domain_at words >>= λ y. Ok (Some (Prefer.Domain y.0), y.1)) ≡ Ok x → IsRight x.0
unfolding is_prefer
domain_right words x e =
    let b = bind_ok (domain_at words) (λ y. Ok (Some (Prefer.Domain y.0), y.1)) x e in
    let made : Found = (Some (Prefer.Domain b.0.0), b.0.1) in
    subst (λ (y : Found). IsRight y.0) {x = made} (ok_is made x b.2) (at_right words b.0 b.1)

place_right : (slash angle : Bool) (word : Text) (words : List Text) (x : Found)
    → cond slash (path_word word >>= λ path. Ok (Some (Prefer.Path path), words)) (cond angle (domain_at (word ∷ words) >>= λ y. Ok (Some (Prefer.Domain y.0), y.1)) (Ok (None, word ∷ words))) ≡ Ok x → IsRight x.0
place_right true angle word words x e = path_right word words x e
place_right false true word words x e = domain_right (word ∷ words) x e
place_right false false word words x e = let made : Found = (None, word ∷ words) in subst (λ (y : Found). IsRight y.0) {x = made} (ok_is made x e) tt

turn_or_right : (o : Option Prefer) (word : Text) (words : List Text) (x : Found) → IsRight o → turn_or_place o word words ≡ Ok x → IsRight x.0
turn_or_right (Some turn) word words x h e = let made : Found = (Some turn, words) in subst (λ (y : Found). IsRight y.0) {x = made} (ok_is made x e) h
turn_or_right None word words x h e = place_right (begins_with_byte 47 word) (begins_with_byte 60 word) word words x e

pub prefer_read : (words : List Text) (x : Found) → prefer_at words ≡ Ok x → IsRight x.0
unfolding prefer_at
prefer_read [] x e = let made : Found = (None, []) in subst (λ (y : Found). IsRight y.0) {x = made} (ok_is made x e) tt
prefer_read (word ∷ words) x e = turn_or_right (turn_of word) word words x (turn_right word) e

-- ---- a name and a preference

pub name_alone : (n : NameUnion) (more : List Text) → is_name n ≡ true → path_at false (name_spelling n ∷ more) ≡ Ok (Args.Path n, more)
unfolding path_at
name_alone n more h = rw (name_at_again n more h) refl

pub no_preference : (n : NameUnion) (more : List Text) → is_name n ≡ true → no_prefer more ≡ true → path_at true (name_spelling n ∷ more) ≡ Ok (Args.Path n, more)
unfolding path_at
no_preference n more h k = rw (name_at_again n more h, none_again more k) refl

pub preference : (n : NameUnion) (p : Prefer) (more : List Text) → is_name n ≡ true → is_prefer p ≡ true → no_prefer more ≡ true → path_at true (name_spelling n ∷ (prefer_words p ++ more)) ≡ Ok (Args.Execute n p, more)
unfolding path_at
preference n p more h k l = rw (name_at_again n (prefer_words p ++ more) h, prefer_again p more k l) refl

-- a name, or where a preference may stand a name and a preference
abbrev pub IsPath : Bool → Args → Type 0
IsPath alone a = ((n : NameUnion) × (is_name n ≡ true) × (Args.Path n ≡ a)) ⊎ ((n : NameUnion) × (p : Prefer) × (alone ≡ true) × (is_name n ≡ true) × (is_prefer p ≡ true) × (Args.Execute n p ≡ a))

with_right : (n : NameUnion) (o : Option Prefer) → is_name n ≡ true → IsRight o → IsPath true (with_prefer n o)
with_right n None h k = inl (n, h, refl)
with_right n (Some p) h k = inr (n, p, refl, h, k, refl)

abbrev Read : Type 0
Read = Args × List Text

pub path_read : (alone : Bool) (words : List Text) (x : Read) → path_at alone words ≡ Ok x → IsPath alone x.0
unfolding path_at
path_read false words x e =
    let a = bind_ok (name_at words) (λ name. Ok (Args.Path name.0, name.1)) x e in
    let made : Read = (Args.Path a.0.0, a.0.1) in
    subst (λ (y : Read). IsPath false y.0) {x = made} (ok_is made x a.2) (inl (a.0.0, name_at_read words a.0 a.1, refl))
path_read true words x e =
    let a = bind_ok (name_at words) (λ name. prefer_at name.1 >>= λ found. Ok (with_prefer name.0 found.0, found.1)) x e in
    let b = bind_ok (prefer_at a.0.1) (λ found. Ok (with_prefer a.0.0 found.0, found.1)) x a.2 in
    let made : Read = (with_prefer a.0.0 b.0.0, b.0.1) in
    subst (λ (y : Read). IsPath true y.0) {x = made} (ok_is made x b.2) (with_right a.0.0 b.0.0 (name_at_read words a.0 a.1) (prefer_read a.0.1 b.0 b.1))
