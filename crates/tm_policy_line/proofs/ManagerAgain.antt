-- Manager lines: their printed words are words, and are read as that line.
use Rattle.std.proofs.Common.{◌≡◌, ℕ, ◌==◌, Bool, true, false, ◌||◌, not, List, [], ◌∷◌, Option, Some, None, Ok, refl, sym, ap, subst, ◌∙◌, true≢false}
use Rattle.std.specs.Prelude.{is_some}
use Rattle.std.specs.List.{list_all, onto_first}
use Rattle.std.proofs.lemmas.Bool.{ne_eqb, eqb-true}
use Rattle.std.proofs.lemmas.List.Splits.{slice_split-cons_no}
use Rattle.tm_word.specs.Prelude.{Text, Word, begins_with_byte, is_separator, is_solid, is_word, spelled_word}
use Rattle.tm_word.proofs.Spelled.{word_found, word_small}
use Rattle.tm_rules.specs.Types.{FileKind, ManagerRule, PolicyLine}
use Rattle.tm_rules.specs.Prelude.{is_domain_name}
use Rattle.tm_line.specs.Names.{is_path}
use Rattle.tm_line.specs.Domains.{domain_to_end}
use Rattle.tm_line.specs.DomainWords.{domain_parts}
use Rattle.tm_line.proofs.Steps.{both, not_true}
use Rattle.tm_line.proofs.DomainLaws.{parts_begin, to_end_again}
use Rattle.tm_line.proofs.WholeLaws.{word_from, spell_solid, parts_are}
use Rattle.tm_except.specs.Reading.{literal_word}
use Rattle.tm_policy_line.specs.Reading.{manager_rule, manager_of, read_words}
use Rattle.tm_policy_line.specs.Printing.{deleted, non_root_words, manager_words, manager_rule_words}
use Rattle.tm_policy_line.specs.Written.{is_literal_text, is_manager_text, is_manager_rule}

abbrev IsRead : Bool → List Text → ManagerRule → Type 0
IsRead delete words rule = read_words FileKind.Manager (deleted delete words) ≡ Ok (PolicyLine.Manager delete rule)

pub non_root_again : (delete : Bool) → read_words FileKind.Manager (deleted delete non_root_words) ≡ Ok (PolicyLine.Manager delete ManagerRule.ByNonRoot)
unfolding read_words manager_of manager_rule
non_root_again true = refl
non_root_again false = refl

-- ---- domain names

name_front : (delete : Bool) (rest : Text) (paths : List Text) (name : Text) → domain_to_end ((60 ∷ rest) ∷ paths) ≡ Ok name → IsRead delete ((60 ∷ rest) ∷ paths) (ManagerRule.Name name)
unfolding read_words manager_of manager_rule
name_front true rest paths name e = rw e refl
name_front false rest paths name e = rw e refl

name_from : (delete : Bool) (words : List Text) (rest : Text) (paths : List Text) (name : Text) → words ≡ (60 ∷ rest) ∷ paths → domain_to_end words ≡ Ok name → IsRead delete words (ManagerRule.Name name)
name_from delete words rest paths name is e = ap (λ ws. read_words FileKind.Manager (deleted delete ws)) is ∙ name_front delete rest paths name (ap domain_to_end (sym is) ∙ e)

name_again : (delete : Bool) (name : Text) → is_domain_name is_path name ≡ true → IsRead delete (domain_parts name) (ManagerRule.Name name)
name_again delete name h = let b = parts_begin name h in name_from delete (domain_parts name) b.rest b.paths name b.are (to_end_again name h)

-- ---- literal paths

-- no space stands in a solid text
no_space : (b : ℕ) → is_separator b ≡ false → (b == 32) ≡ false
no_space b h = ne_eqb b 32 (λ e. true≢false (sym (ap is_separator e) ∙ h))

pub one_part : (text : Text) → is_solid text ≡ true → domain_parts text ≡ text ∷ []
one_part [] h = refl
one_part (b ∷ text) h =
    let t = both (not (is_separator b)) (is_solid text) h in
    slice_split-cons_no (λ c. c == 32) b text (no_space b (not_true (is_separator b) t.0)) ∙ ap (onto_first b) (one_part text t.1)

pub record Spells (text : Text) : Type 0 where
  pub word : Word
  pub is : spelled_word text ≡ Some word

spells_by : (text : Text) (o : Option Word) → spelled_word text ≡ o → is_some o ≡ true → Spells text
spells_by text None e h = absurd cc
spells_by text (Some word) e h = record { word = word; is = e }

pub literal_spells : (text : Text) → is_literal_text text ≡ true → Spells text
literal_spells text h = spells_by text (spelled_word text) refl (both (begins_with_byte 47 text) (is_some (spelled_word text)) h).1

pub literal_solid : (text : Text) → is_literal_text text ≡ true → is_solid text ≡ true
literal_solid text h =
    let s = literal_spells text h in
    subst (λ (t : Text). is_solid t ≡ true) (sym (word_found text s.word s.is)) (spell_solid s.word (word_small text s.word s.is))

literal_front : (delete : Bool) (rest : Text) (word : Word) → spelled_word (47 ∷ rest) ≡ Some word → IsRead delete ((47 ∷ rest) ∷ []) (ManagerRule.Name (47 ∷ rest))
unfolding read_words manager_of manager_rule literal_word
literal_front true rest word e = rw e refl
literal_front false rest word e = rw e refl

literal_from : (delete : Bool) (text : Text) (word : Word) → begins_with_byte 47 text ≡ true → spelled_word text ≡ Some word → IsRead delete (text ∷ []) (ManagerRule.Name text)
literal_from delete [] word h e = absurd cc
literal_from delete (b ∷ rest) word h e =
    let at : b ≡ 47 = eqb-true b 47 h in
    subst (λ c. IsRead delete ((c ∷ rest) ∷ []) (ManagerRule.Name (c ∷ rest))) (sym at) (literal_front delete rest word (ap (λ c. spelled_word (c ∷ rest)) (sym at) ∙ e))

literal_again : (delete : Bool) (text : Text) → is_literal_text text ≡ true → IsRead delete (domain_parts text) (ManagerRule.Name text)
literal_again delete text h =
    let s = literal_spells text h in
    ap (λ ws. read_words FileKind.Manager (deleted delete ws)) (one_part text (literal_solid text h)) ∙ literal_from delete text s.word (both (begins_with_byte 47 text) (is_some (spelled_word text)) h).0 s.is

-- ---- managers

either_way : {C : Type 0} (a b : Bool) → (a || b) ≡ true → (a ≡ true → C) → (b ≡ true → C) → C
either_way true b h f g = f refl
either_way false b h f g = g h

pub manager_again : (delete : Bool) (name : Text) → is_manager_text name ≡ true → read_words FileKind.Manager (deleted delete (manager_words name)) ≡ Ok (PolicyLine.Manager delete (ManagerRule.Name name))
unfolding is_manager_text
manager_again delete name h = either_way (is_domain_name is_path name) (is_literal_text name) h (name_again delete name) (literal_again delete name)

pub manager_rule_again : (delete : Bool) (rule : ManagerRule) → is_manager_rule rule ≡ true → read_words FileKind.Manager (deleted delete (manager_rule_words rule)) ≡ Ok (PolicyLine.Manager delete rule)
unfolding is_manager_rule manager_rule_words
manager_rule_again delete ManagerRule.ByNonRoot h = non_root_again delete
manager_rule_again delete (ManagerRule.Name name) h = manager_again delete name h

-- ---- words

solid_word : (text : Text) → begins_with_byte 47 text ≡ true → is_solid text ≡ true → is_word text ≡ true
solid_word [] h k = absurd cc
solid_word (b ∷ text) h k = word_from b text k

literal_are : (text : Text) → is_literal_text text ≡ true → list_all is_word (domain_parts text) ≡ true
literal_are text h =
    let solid = literal_solid text h in
    let one : is_word text ≡ true = solid_word text (both (begins_with_byte 47 text) (is_some (spelled_word text)) h).0 solid in
    ap (list_all is_word) (one_part text solid) ∙ rw one refl

pub manager_are : (name : Text) → is_manager_text name ≡ true → list_all is_word (manager_words name) ≡ true
unfolding is_manager_text
manager_are name h = either_way (is_domain_name is_path name) (is_literal_text name) h (parts_are name) (literal_are name)

pub manager_rule_are : (rule : ManagerRule) → is_manager_rule rule ≡ true → list_all is_word (manager_rule_words rule) ≡ true
unfolding is_manager_rule manager_rule_words
manager_rule_are ManagerRule.ByNonRoot h = refl
manager_rule_are (ManagerRule.Name name) h = manager_are name h
