-- A namespace word is read whatever follows it.
use Rattle.std.proofs.Common.{◌≡◌, ◌==◌, Bool, true, false, List, [], ◌∷◌, Result, Ok, Err, refl, sym, ap, subst, ◌∙◌}
use Rattle.std.specs.Prelude.{if◌then◌else◌}
use Rattle.std.specs.List.{list_any}
use Rattle.tm_word.specs.Prelude.{Text, ◌>>=◌}
use Rattle.tm_domain.specs.LineKind.{LineKind}
use Rattle.tm_domain.specs.Reading.{pattern_of, parsed, step, ended}
use Rattle.tm_domain.specs.Tokens.{token_at}
use Rattle.tm_domain.specs.Policy.{kernel}
use Rattle.tm_domain.specs.declared.DomainFault.{DomainFault}
use Rattle.tm_domain.specs.Names.{domain_of, is_path}
use Rattle.tm_domain.proofs.NameLaws.{same_name}
use Rattle.tm_line.specs.Arguments.{kinded}
use Rattle.tm_line.specs.Namespaces.{opens, namespace_of, namespace_at, IsNamespace}

abbrev none : List Text
none = []

-- a namespace and the words after it
abbrev beside : List Text → Result Text LineKind → Result (Text × List Text) LineKind
beside words r = r >>= λ name. Ok (name, words)

abbrev name_in : Result (Text × List Text) LineKind → Text
name_in (Ok found) = found.0
name_in (Err kind) = []

abbrev rest_in : Result (Text × List Text) LineKind → List Text
rest_in (Ok found) = found.1
rest_in (Err kind) = []

beside_is : (name : Text) (words : List Text) (r : Result Text LineKind) (rest : List Text) → beside words r ≡ Ok (name, rest) → r ≡ Ok name
beside_is name words (Ok x) rest h = ap (λ r. Ok (name_in r)) h
beside_is name words (Err kind) rest h = absurd cc

opened : (name : Text) (b : Bool) → (if b then beside none (namespace_of name) else Ok (kernel, name ∷ [])) ≡ Ok (name, none) → (b ≡ true) × (namespace_of name ≡ Ok name)
opened name false h = let same : (name ∷ []) ≡ none = ap rest_in h in absurd cc
opened name true h = (refl, beside_is name none (namespace_of name) none h)

pub named : (name : Text) (words : List Text) → IsNamespace name → namespace_at (name ∷ words) ≡ Ok (name, words)
unfolding namespace_at
named name words h = let o = opened name (opens name) h in rw (o.0, o.1) refl

-- it begins with `<`
pub opens_is : (name : Text) → IsNamespace name → opens name ≡ true
unfolding namespace_at
opens_is name h = (opened name (opens name) h).0

pub kernel_is : IsNamespace kernel
unfolding namespace_at namespace_of domain_of is_path pattern_of parsed step ended token_at
kernel_is = refl

domain_is : (name found : Text) (r : Result Text DomainFault) → r ≡ domain_of name → kinded LineKind.Domain r ≡ Ok found → found ≡ name
domain_is name found (Ok x) e h = let is : x ≡ found = ap text_in h in sym is ∙ same_name name x (sym e)
  where
    text_in : Result Text LineKind → Text
    text_in (Ok text) = text
    text_in (Err kind) = []
domain_is name found (Err fault) e h = absurd cc

-- the namespace is the word itself
word_is : (word name : Text) → namespace_of word ≡ Ok name → name ≡ word
unfolding namespace_of
word_is word name h = by_space (list_any (λ b. b == 32) word) h
  where
    by_space : (b : Bool) → (if b then Err LineKind.Domain else kinded LineKind.Domain (domain_of word)) ≡ Ok name → name ≡ word
    by_space true e = absurd cc
    by_space false e = domain_is word name (domain_of word) refl e

again : (name : Text) → opens name ≡ true → namespace_of name ≡ Ok name → IsNamespace name
unfolding namespace_at
again name h k = rw (h, k) refl

pub found_is : (words : List Text) (name : Text) (rest : List Text) → namespace_at words ≡ Ok (name, rest) → IsNamespace name
unfolding namespace_at
found_is [] name rest h = subst IsNamespace (ap name_in h) kernel_is
found_is (word ∷ words) name rest h = by_front (opens word) refl h
  where
    by_front : (b : Bool) → opens word ≡ b → (if b then beside words (namespace_of word) else Ok (kernel, word ∷ words)) ≡ Ok (name, rest) → IsNamespace name
    by_front false e h = subst IsNamespace (ap name_in h) kernel_is
    by_front true e h =
        let found = beside_is name words (namespace_of word) rest h in
        let same = word_is word name found in
        again name (ap opens same ∙ e) (ap namespace_of same ∙ found)
