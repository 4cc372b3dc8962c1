-- A namespace word is a word of a line.
use Rattle.std.proofs.Common.{◌≡◌, ℕ, ◌==◌, Bool, true, false, ◌||◌, List, [], ◌∷◌, Result, Ok, Err, refl, sym, ap, ◌∙◌}
use Rattle.std.specs.Prelude.{if◌then◌else◌}
use Rattle.std.specs.List.{list_all, list_any, onto_first}
use Rattle.std.proofs.lemmas.List.Splits.{slice_split-cons_no}
use Rattle.tm_word.specs.Prelude.{Text, is_word, ◌>>=◌}
use Rattle.tm_rules.specs.Types.{LineKind}
use Rattle.tm_rules.specs.Prelude.{is_domain_name, kernel}
use Rattle.tm_line.specs.Names.{is_path, is_read, domain_of}
use Rattle.tm_line.proofs.NameLaws.{right_name}
use Rattle.tm_line.specs.Arguments.{kinded}
use Rattle.tm_line.specs.DomainWords.{domain_parts}
use Rattle.tm_line.specs.Namespaces.{opens, namespace_of, namespace_at, IsNamespace}
use Rattle.tm_line.proofs.Steps.{both, bind_ok, kinded_ok}
use Rattle.tm_line.proofs.WholeLaws.{parts_are}

-- a text without a space is one part
unspaced_by : (b : ℕ) (text : Text) (t : Bool) → (b == 32) ≡ t → (t || list_any (λ c. c == 32) text) ≡ false → (list_any (λ c. c == 32) text ≡ false → domain_parts text ≡ text ∷ []) → domain_parts (b ∷ text) ≡ (b ∷ text) ∷ []
unspaced_by b text true e h more = absurd cc
unspaced_by b text false e h more = slice_split-cons_no (λ c. c == 32) b text e ∙ ap (onto_first b) (more h)

unspaced : (text : Text) → list_any (λ b. b == 32) text ≡ false → domain_parts text ≡ text ∷ []
unspaced [] h = refl
unspaced (b ∷ text) h = unspaced_by b text (b == 32) refl h (λ k. unspaced text k)

one_word : (word : Text) → list_any (λ b. b == 32) word ≡ false → list_all is_word (domain_parts word) ≡ true → is_word word ≡ true
one_word word h k = (both (is_word word) true (ap (list_all is_word) (sym (unspaced word h)) ∙ k)).0

named_word : (word name : Text) → namespace_of word ≡ Ok name → is_word word ≡ true
unfolding namespace_of
named_word word name h = by_space (list_any (λ b. b == 32) word) refl h
  where
    by_space : (t : Bool) → list_any (λ b. b == 32) word ≡ t → (if t then Err LineKind.Domain else kinded LineKind.Domain (domain_of word)) ≡ Ok name → is_word word ≡ true
    by_space true e k = absurd cc
    by_space false e k =
        let right : is_domain_name is_path word ≡ true = right_name word ∙ ap is_read (kinded_ok LineKind.Domain (domain_of word) name k) in
        one_word word e (parts_are word right)

abbrev Found : Type 0
Found = Text × List Text

abbrev beside : List Text → Result Text LineKind → Result Found LineKind
beside words read = read >>= λ name. Ok (name, words)

abbrev words_in : Result Found LineKind → List Text
words_in (Ok found) = found.1
words_in (Err kind) = []

first_word : (word : Text) (t : Bool) → (if t then beside [] (namespace_of word) else Ok (kernel, word ∷ [])) ≡ Ok (word, []) → is_word word ≡ true
first_word word true e = let found = bind_ok (namespace_of word) (λ name. Ok (name, [])) (word, []) e in named_word word found.0 found.1
first_word word false e = let same : word ∷ [] ≡ [] = ap words_in e in absurd cc

pub namespace_word : (word : Text) → IsNamespace word → is_word word ≡ true
unfolding namespace_at
namespace_word word h = first_word word (opens word) h
