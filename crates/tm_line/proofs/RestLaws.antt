-- What is left of the words after a step is the end of them.
use Rattle.std.proofs.Common.{◌≡◌, ◌+◌, ◌-◌, ◌&&◌, List, [], ◌∷◌, ◌++◌, length, take, drop, Result, Ok, refl, sym, ap, subst, ◌∙◌, arith, append_assoc, length-append}
use Rattle.std.proofs.Math.Seq.{drop-append-add}
use Rattle.std.proofs.lemmas.List.{take-append-drop}
use Rattle.tm_word.specs.Prelude.{Text, begins, texts_equal}
use Rattle.tm_domain.specs.LineKind.{LineKind}
use Rattle.tm_domain.specs.NameUnion.{NameUnion}
use Rattle.tm_domain.specs.NumberUnion.{NumberUnion}
use Rattle.tm_domain.specs.AddrUnion.{AddrUnion}
use Rattle.tm_domain.specs.Words.{DomainName}
use Rattle.tm_line.specs.Lines.{is_last, keyword_kind, keyword_at, word_at}
use Rattle.tm_line.specs.Arguments.{name_word, number_word, address_word, name_at, number_at, address_at}
use Rattle.tm_line.specs.Domains.{domain_words, paths_in, domain_at}
use Rattle.tm_line.proofs.Steps.{bind_ok, ok_is, chosen}

-- these are words and then the rest
abbrev pub Rest : List Text → List Text → Type 0
Rest words rest = (front : List Text) × (words ≡ front ++ rest)

pub rest_none : (words : List Text) → Rest words words
rest_none words = ([], refl)

pub rest_more : (word : Text) (words rest : List Text) → Rest words rest → Rest (word ∷ words) rest
rest_more word words rest r = (word ∷ r.0, ap (λ ws. word ∷ ws) r.1)

pub rest_then : (a b c : List Text) → Rest a b → Rest b c → Rest a c
rest_then a b c r s = (r.0 ++ s.0, r.1 ∙ ap (λ ws. r.0 ++ ws) s.1 ∙ sym (append_assoc r.0 s.0 c))

-- the rest by its length
pub rest_is : (words rest : List Text) → Rest words rest → rest ≡ drop (length words - length rest) words
rest_is words rest r =
    let long : length words ≡ length r.0 + length rest = ap length r.1 ∙ length-append r.0 rest in
    let count : length words - length rest ≡ length r.0 + 0 = omega (arith, long) in
    sym (ap (λ n. drop n words) count ∙ ap (λ ws. drop (length r.0 + 0) ws) r.1 ∙ drop-append-add r.0 rest 0)

pub word_rest : {A : Type 0} (read : Text → Result A LineKind) (words : List Text) (x : A × List Text) → word_at read words ≡ Ok x → Rest words x.1
word_rest read [] x e = absurd cc
word_rest {A} read (word ∷ words) x e =
    let b = bind_ok (read word) (λ y. Ok (y, words)) x e in
    let made : A × List Text = (b.0, words) in
    subst (λ (y : A × List Text). Rest (word ∷ words) y.1) (ok_is made x b.2) (word ∷ [], refl)

pub name_rest : (words : List Text) (x : NameUnion × List Text) → name_at words ≡ Ok x → Rest words x.1
unfolding name_at
name_rest words x e = word_rest name_word words x e

pub number_rest : (words : List Text) (x : NumberUnion × List Text) → number_at words ≡ Ok x → Rest words x.1
unfolding number_at
number_rest words x e = word_rest number_word words x e

pub address_rest : (words : List Text) (x : AddrUnion × List Text) → address_at words ≡ Ok x → Rest words x.1
unfolding address_at
address_rest words x e = word_rest address_word words x e

pub keyword_rest : (keyword : Text) (words rest : List Text) → keyword_at keyword words ≡ Ok rest → Rest words rest
keyword_rest keyword [] rest e = absurd cc
keyword_rest keyword (word ∷ words) rest e =
    let c = chosen (texts_equal word keyword) words rest (keyword_kind (is_last words && begins word keyword)) e in
    subst (λ ws. Rest (word ∷ words) ws) c.1 (word ∷ [], refl)

pub domain_rest : (words : List Text) (x : DomainName × List Text) → domain_at words ≡ Ok x → Rest words x.1
unfolding domain_at
domain_rest [] x e = absurd cc
domain_rest (word ∷ words) x e =
    let b = bind_ok (domain_words (word ∷ take (paths_in words) words)) (λ name. Ok (name, drop (paths_in words) words)) x e in
    let made : DomainName × List Text = (b.0, drop (paths_in words) words) in
    subst (λ (y : DomainName × List Text). Rest (word ∷ words) y.1) (ok_is made x b.2) (word ∷ take (paths_in words) words, ap (λ ws. word ∷ ws) (sym (take-append-drop (paths_in words) words)))
