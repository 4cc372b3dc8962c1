-- Printed rules are made of words, which are found again in the printed text.
use Rattle.std.proofs.Common.{◌≡◌, ℕ, ◌<◌, ◌==◌, nat_lt, Bool, true, false, ◌&&◌, not, List, [], ◌∷◌, ◌++◌, Option, Some, None, Ok, refl, sym, ap, subst, ◌∙◌}
use Rattle.std.specs.Prelude.{codes}
use Rattle.std.specs.Fmt.{digits, decimal}
use Rattle.std.specs.List.{list_all}
use Rattle.std.proofs.lemmas.Bool.{eqb-true, ltb-true}
use Rattle.tm_word.specs.Prelude.{Pattern, Text, Word, are_bytes, is_empty, is_solid, is_word, joined, lines_of, spell, spelled_pattern, spelled_word, word_of, words_of}
use Rattle.tm_word.proofs.Spelled.{below, below-at}
use Rattle.tm_rules.specs.Types.{AddrRange, AddrUnion, Control, ControlKind, ExceptRule, NameUnion, NumberUnion, Range}
use Rattle.tm_number.specs.Numbers.{range_spelling}
use Rattle.tm_line.specs.AddrPrinting.{addr_range_spelling}
use Rattle.tm_pattern.specs.Grammar.{is_right}
use Rattle.tm_line.specs.Namespaces.{line_text, IsNamespace}
use Rattle.tm_line.specs.Arguments.{group_word}
use Rattle.tm_line.specs.Printing.{name_spelling, number_spelling, address_spelling}
use Rattle.tm_line.specs.Written.{is_group, is_name, is_range, is_number, is_addr_range, is_address}
use Rattle.tm_line.proofs.Steps.{both, all}
use Rattle.tm_line.proofs.GroupLaws.{group_again}
use Rattle.tm_line.proofs.JoinLaws.{joined_is}
use Rattle.tm_line.proofs.LineLaws.{line_first}
use Rattle.tm_line.proofs.WholeLaws.{words_again, word_from, spell_solid, spelled_solid, pattern_solid, name_is, number_is, address_is, path_is, parts_are}
use Rattle.tm_except.specs.Reading.{line}
use Rattle.tm_except.specs.Printing.{kind_text, program_text, domain_words, control_words, range_text, addr_range_text, path_group_words, number_group_words, address_group_words, aggregator_words, rule_words, line_words}
use Rattle.tm_except.specs.Written.{is_member, is_first, is_kind, is_program, is_side, is_control, is_line, is_rule, is_listed, keeps_words}
use Rattle.tm_rules.specs.Prelude.{is_path_word}
use Rattle.tm_except.proofs.NamespaceWords.{namespace_word}

abbrev pub AreWords : List Text → Type 0
AreWords words = list_all is_word words ≡ true

-- one word more
pub more : (word : Text) (words : List Text) → is_word word ≡ true → AreWords words → AreWords (word ∷ words)
more word words h k = all (is_word word) (list_all is_word words) h k

-- Single words

number_words : below 256 (λ n. is_word (decimal n)) ≡ true
unfolding below digits
number_words = refl

pub number_word : (n : ℕ) → n < 256 → is_word (decimal n) ≡ true
number_word n h = below-at 256 (λ k. is_word (decimal k)) n number_words h

name_text : (text : Text) (g : Word) → group_word text ≡ Ok g → is_solid text ≡ true → is_word text ≡ true
unfolding group_word spelled_word word_of
name_text [] g e h = absurd cc
name_text (b ∷ text) g e h = word_from b text h

name_word : (g : Word) → is_group g ≡ true → is_word (spell g) ≡ true
name_word g h = name_text (spell g) g (group_again g h) (spelled_solid g h)

member_word : (p : Pattern) → is_member p ≡ true → is_word (spelled_pattern p) ≡ true
unfolding is_name name_spelling
member_word p h = name_is (NameUnion.One p) h

full_word : (text : Text) → not (is_empty text) ≡ true → is_solid text ≡ true → is_word text ≡ true
full_word [] h k = absurd cc
full_word (b ∷ text) h k = word_from b text k

first_word : (p : Pattern) → is_first p ≡ true → is_word (spelled_pattern p) ≡ true
first_word p h =
    let t = both (is_right p) (not (is_empty (spelled_pattern p))) h in
    full_word (spelled_pattern p) t.1 (pattern_solid p t.0)

range_is : (r : Range) → is_range r ≡ true → is_word (range_spelling r) ≡ true
unfolding is_number number_spelling
range_is r h = number_is (NumberUnion.One r) h

addr_range_is : (r : AddrRange) → is_addr_range r ≡ true → is_word (addr_range_spelling r) ≡ true
unfolding is_address address_spelling
addr_range_is r h = address_is (AddrUnion.One r) h

path_front : (word : Word) → is_solid (spell (47 ∷ word)) ≡ true → is_word (spell (47 ∷ word)) ≡ true
path_front word h = word_from 47 (spell word) h

literal_word : (word : Word) → is_path_word word ≡ true → is_word (spell word) ≡ true
literal_word [] h = absurd cc
literal_word (b ∷ word) h =
    let t = both (b == 47) (are_bytes (b ∷ word)) h in
    let at : b ≡ 47 = eqb-true b 47 t.0 in
    let solid : is_solid (spell (b ∷ word)) ≡ true = spell_solid (b ∷ word) t.1 in
    subst (λ c. is_word (spell (c ∷ word)) ≡ true) (sym at) (path_front word (ap (λ c. is_solid (spell (c ∷ word))) (sym at) ∙ solid))

-- Controls

kind_word : (kind : ControlKind) → is_kind kind ≡ true → is_word (kind_text kind) ≡ true
kind_word ControlKind.NoReset h = refl
kind_word ControlKind.Reset h = refl
kind_word ControlKind.NoInitialize h = refl
kind_word ControlKind.Initialize h = refl
kind_word ControlKind.NoKeep h = refl
kind_word ControlKind.Keep h = refl
kind_word ControlKind.Ordinary h = absurd cc

program_word : (program : Option Text) → is_program program ≡ true → is_word (program_text program) ≡ true
program_word None h = refl
program_word (Some path) h = path_is path h

side_words : (domain : Option Text) (last : Bool) → is_side domain last ≡ true → AreWords (domain_words domain last)
side_words None last h = refl
side_words (Some path) true h = more path [] (path_is path h) refl
side_words (Some name) false h = parts_are name h

control_are : (c : Control) → is_control c ≡ true → AreWords (control_words c)
unfolding control_words
control_are c h =
    let t = both (is_kind c.kind) (is_program c.program && is_side c.domain c.last) h in
    let s = both (is_program c.program) (is_side c.domain c.last) t.1 in
    let rest : List Text = codes "from" ∷ domain_words c.domain c.last in
    more (kind_text c.kind) (program_text c.program ∷ rest) (kind_word c.kind t.0) (more (program_text c.program) rest (program_word c.program s.0) (side_words c.domain c.last s.1))

-- Every rule

two : (first second : Text) → is_word first ≡ true → is_word second ≡ true → AreWords (first ∷ second ∷ [])
two first second h k = more first (second ∷ []) h (more second [] k refl)

pub rule_are : (rule : ExceptRule) → is_rule rule ≡ true → keeps_words rule ≡ true → list_all is_word (rule_words rule) ≡ true
unfolding is_rule rule_words path_group_words number_group_words address_group_words aggregator_words range_text addr_range_text
rule_are (ExceptRule.PathGroup name member) h k =
    let t = both (is_group name) (is_member member) h in
    two (spell name) (spelled_pattern member) (name_word name t.0) (member_word member t.1)
rule_are (ExceptRule.NumberGroup name member) h k =
    let t = both (is_group name) (is_range member) h in
    two (spell name) (range_spelling member) (name_word name t.0) (range_is member t.1)
rule_are (ExceptRule.AddressGroup name member) h k =
    let t = both (is_group name) (is_addr_range member) h in
    two (spell name) (addr_range_spelling member) (name_word name t.0) (addr_range_is member t.1)
rule_are (ExceptRule.Aggregator one other) h k =
    let t = both (is_first one) (is_path_word other) h in
    two (spelled_pattern one) (spell other) (first_word one t.0) (literal_word other t.1)
rule_are (ExceptRule.Control c) h k = control_are c h
rule_are (ExceptRule.Acl n words) h k = let t = both (nat_lt n 256) (is_line words) h in more (decimal n) words (number_word n (ltb-true n 256 t.0)) k

-- a rule of the lists keeps no words
pub listed_keeps : (rule : ExceptRule) → is_listed rule ≡ true → keeps_words rule ≡ true
listed_keeps (ExceptRule.PathGroup name member) h = refl
listed_keeps (ExceptRule.NumberGroup name member) h = refl
listed_keeps (ExceptRule.AddressGroup name member) h = refl
listed_keeps (ExceptRule.Aggregator one other) h = refl
listed_keeps (ExceptRule.Control c) h = refl
listed_keeps (ExceptRule.Acl n words) h = absurd cc

pub listed_are : (rule : ExceptRule) → is_rule rule ≡ true → is_listed rule ≡ true → list_all is_word (rule_words rule) ≡ true
listed_are rule h k = rule_are rule h (listed_keeps rule k)

-- Lines

pub in_line : (delete : Bool) (name : Text) (rule : ExceptRule) → is_word name ≡ true → AreWords (rule_words rule) → AreWords (line_words (line delete name rule))
unfolding line_words
in_line true name rule h k = more name (rule_words rule) h k
in_line false name rule h k = more name (rule_words rule) h k

pub line_are : (delete : Bool) (name : Text) (rule : ExceptRule) → is_word name ≡ true → is_rule rule ≡ true → keeps_words rule ≡ true → list_all is_word (line_words (line delete name rule)) ≡ true
line_are delete name rule h k l = in_line delete name rule h (rule_are rule k l)

pub line_joined : (delete : Bool) (name : Text) (rule : ExceptRule) → IsNamespace name → is_rule rule ≡ true → keeps_words rule ≡ true
    → words_of (joined (line_words (line delete name rule))) ≡ line_words (line delete name rule)
line_joined delete name rule h k l = words_again (line_words (line delete name rule)) (line_are delete name rule (namespace_word name h) k l)

pub text_first : (name : Text) (rule : ExceptRule) (rest : Text) → IsNamespace name → is_rule rule ≡ true → keeps_words rule ≡ true
    → lines_of (line_text name (rule_words rule) ++ rest) ≡ joined (line_words (line false name rule)) ∷ lines_of rest
unfolding line_words
text_first name rule rest h k l =
    line_first name (rule_words rule) rest (namespace_word name h) (rule_are rule k l) ∙ ap (λ (t : Text). t ∷ lines_of rest) (sym (joined_is name (rule_words rule)))
