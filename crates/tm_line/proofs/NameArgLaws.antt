-- Name arguments: what is written is read again, and what is read can be written.
use Rattle.std.proofs.Common.{◌≡◌, ◌==◌, true, false, List, [], ◌∷◌, Ok, inl, inr, refl, subst, ◌∙◌}
use Rattle.tm_word.specs.Prelude.{Pattern, Text, begins_with_byte, spelled_pattern}
use Rattle.tm_domain.specs.Reading.{pattern_of}
use Rattle.tm_domain.specs.Grammar.{is_right}
use Rattle.tm_domain.proofs.LexLaws.{pattern_found}
use Rattle.tm_domain.proofs.GrammarLaws.{right-read}
use Rattle.tm_domain.proofs.RightLaws.{read-right}
use Rattle.tm_domain.specs.LineKind.{LineKind}
use Rattle.tm_domain.specs.NameUnion.{NameUnion}
use Rattle.tm_line.specs.Arguments.{pattern_word, one_name, name_word, name_at}
use Rattle.tm_line.specs.Printing.{name_spelling}
use Rattle.tm_line.specs.Written.{begins_name, is_name}
use Rattle.tm_line.proofs.Steps.{bind_ok, ok_is, kinded_ok, both, all, not_true, to_not}
use Rattle.tm_line.proofs.GroupLaws.{or_again, or_one, or_found}

pub pattern_again : (p : Pattern) → is_right p ≡ true → pattern_word (spelled_pattern p) ≡ Ok p
unfolding pattern_word
pattern_again p h = rw (right-read p h) refl

pub pattern_read : (text : Text) (p : Pattern) → pattern_word text ≡ Ok p → (text ≡ spelled_pattern p) × (is_right p ≡ true)
unfolding pattern_word
pattern_read text p e = let h = kinded_ok LineKind.Name (pattern_of text) p e in (pattern_found text p h, read-right text p h)

one_again : (text : Text) (p : Pattern) → begins_name text ≡ true → pattern_word text ≡ Ok p → name_word text ≡ Ok (NameUnion.One p)
unfolding name_word
one_again [] p h e = absurd cc
one_again (b ∷ text) p h e = or_one NameUnion.Group one_name (b ∷ text) (not_true (b == 64) h) ∙ rw e refl

pub name_again : (n : NameUnion) → is_name n ≡ true → name_word (name_spelling n) ≡ Ok n
unfolding name_word name_spelling is_name
name_again (NameUnion.One p) h =
    let split = both (is_right p) (begins_name (spelled_pattern p)) h in
    one_again (spelled_pattern p) p split.1 (pattern_again p split.0)
name_again (NameUnion.Group g) h = or_again NameUnion.Group one_name g h

one_read : (text : Text) (n : NameUnion) → begins_with_byte 64 text ≡ false → one_name text ≡ Ok n → is_name n ≡ true
unfolding is_name
one_read [] n h e = absurd cc
one_read (b ∷ text) n h e =
    let p = bind_ok (pattern_word (b ∷ text)) (λ q. Ok (NameUnion.One q)) n e in
    let is = pattern_read (b ∷ text) p.0 p.1 in
    let front : begins_name (spelled_pattern p.0) ≡ true = subst (λ t. begins_name t ≡ true) is.0 (to_not (b == 64) h) in
    subst (λ m. is_name m ≡ true) (ok_is (NameUnion.One p.0) n p.2) (all (is_right p.0) (begins_name (spelled_pattern p.0)) is.1 front)

pub name_read : (text : Text) (n : NameUnion) → name_word text ≡ Ok n → is_name n ≡ true
unfolding name_word is_name
name_read text n e =
    elim (or_found NameUnion.Group one_name text n e) [
      | inl x ↦ subst (λ m. is_name m ≡ true) x.3 x.1
      | inr x ↦ one_read text n x.0 x.1
    ]

pub name_at_again : (n : NameUnion) (more : List Text) → is_name n ≡ true → name_at (name_spelling n ∷ more) ≡ Ok (n, more)
unfolding name_at
name_at_again n more h = rw (name_again n h) refl

pub name_at_read : (words : List Text) (x : NameUnion × List Text) → name_at words ≡ Ok x → is_name x.0 ≡ true
unfolding name_at
name_at_read [] x e = absurd cc
name_at_read (word ∷ words) x e =
    let n = bind_ok (name_word word) (λ m. Ok (m, words)) x e in
    let made : NameUnion × List Text = (n.0, words) in
    let same : made ≡ x = ok_is made x n.2 in
    subst (λ (y : NameUnion × List Text). is_name y.0 ≡ true) same (name_read word n.0 n.1)
