-- A printed rule is read again.
use Rattle.std.proofs.Common.{◌≡◌, ℕ, ◌<◌, nat_lt, Bool, true, false, ◌&&◌, not, List, [], ◌∷◌, Some, None, Result, Ok, refl, sym, ap, subst, ◌∙◌, arith}
use Rattle.std.specs.Prelude.{Option, codes, if◌then◌else◌}
use Rattle.std.specs.List.{list_all}
use Rattle.std.specs.Fmt.{decimal}
use Rattle.std.proofs.lemmas.Bool.{eqb-true, ltb-true}
use Rattle.tm_word.specs.Prelude.{Pattern, Text, Word, begins_with_byte, is_empty, spell, spelled_pattern, texts_equal, ◌>>=◌}
use Rattle.tm_rules.specs.Types.{AddrRange, Control, ControlKind, ExceptRule, LineKind, Range}
use Rattle.tm_pattern.specs.Grammar.{is_right}
use Rattle.tm_line.specs.Names.{is_path}
use Rattle.tm_line.specs.Lines.{or_kind}
use Rattle.tm_line.specs.Arguments.{pattern_word, path_word}
use Rattle.tm_line.specs.DomainWords.{domain_parts}
use Rattle.tm_line.specs.Written.{is_group, begins_name, is_range, is_addr_range}
use Rattle.tm_line.proofs.Steps.{both}
use Rattle.tm_line.proofs.GroupLaws.{group_again}
use Rattle.tm_line.proofs.NameArgLaws.{pattern_again}
use Rattle.tm_line.proofs.NumberArgLaws.{range_written, plain_again}
use Rattle.tm_line.proofs.AddrArgLaws.{range_written as addr_range_written}
use Rattle.tm_word.proofs.Spelled.{word_again}
use Rattle.tm_line.proofs.DomainLaws.{path_begins, parts_begin, to_end_again}
use Rattle.tm_line.specs.Namespaces.{opens, IsNamespace}
use Rattle.tm_line.proofs.NamespaceLaws.{named, opens_is}
use Rattle.tm_except.specs.declared.reading.Head.{Head}
use Rattle.tm_except.specs.Reading.{member_word, first_word, literal_word, path_group, number_group, address_group, aggregator, acl_group, program_word, name_side, domain_side, control, from_side, program_line, keep_line, is_keep, control_word, head_of, rule_by, rule_at, line, named_line, line_of}
use Rattle.tm_except.specs.Printing.{range_text, addr_range_text, path_group_words, number_group_words, address_group_words, aggregator_words, kind_text, program_text, domain_words, control_words, rule_words, line_words}
use Rattle.tm_except.specs.Written.{is_member, is_first, is_kind, is_program, is_side, is_control, is_line, is_rule}
use Rattle.tm_rules.specs.Prelude.{is_path_word}

-- Groups and aggregators

member_again : (member : Pattern) → is_member member ≡ true → member_word (spelled_pattern member) ≡ Ok member
unfolding member_word
member_again member h = let t = both (is_right member) (begins_name (spelled_pattern member)) h in rw t.1 (pattern_again member t.0)

path_group_again : (first : Bool) (name : Word) (member : Pattern) → is_group name ≡ true → is_member member ≡ true
    → rule_at first (path_group_words name member) ≡ Ok (ExceptRule.PathGroup name member)
unfolding rule_at head_of path_group path_group_words
path_group_again first name member h k = rw (group_again name h, member_again member k) refl

number_group_again : (first : Bool) (name : Word) (member : Range) → is_group name ≡ true → is_range member ≡ true
    → rule_at first (number_group_words name member) ≡ Ok (ExceptRule.NumberGroup name member)
unfolding rule_at head_of number_group number_group_words range_text
number_group_again first name member h k = rw (group_again name h, range_written member k) refl

address_group_again : (first : Bool) (name : Word) (member : AddrRange) → is_group name ≡ true → is_addr_range member ≡ true
    → rule_at first (address_group_words name member) ≡ Ok (ExceptRule.AddressGroup name member)
unfolding rule_at head_of address_group address_group_words addr_range_text
address_group_again first name member h k = rw (group_again name h, addr_range_written member k) refl

-- a name that begins with `/` is spelled so
slash_front : (word : Word) → begins_with_byte 47 word ≡ true → begins_with_byte 47 (spell word) ≡ true
slash_front [] h = absurd cc
slash_front (b ∷ word) h = subst (λ c. begins_with_byte 47 (spell (c ∷ word)) ≡ true) (sym (eqb-true b 47 h)) refl

literal_again : (word : Word) → is_path_word word ≡ true → literal_word (spell word) ≡ Ok word
unfolding literal_word
literal_again word h =
    let t = both (begins_with_byte 47 word) (list_all (λ b. nat_lt b 256) word) h in
    rw (slash_front word t.0) (ap (or_kind LineKind.Name) (word_again word t.1))

-- a text that isn't empty is read as a pattern
first_is : (text : Text) → not (is_empty text) ≡ true → first_word text ≡ pattern_word text
unfolding first_word
first_is [] h = absurd cc
first_is (b ∷ text) h = refl

first_again : (one : Pattern) → is_first one ≡ true → first_word (spelled_pattern one) ≡ Ok one
first_again one h =
    let t = both (is_right one) (not (is_empty (spelled_pattern one))) h in
    first_is (spelled_pattern one) t.1 ∙ pattern_again one t.0

aggregator_again : (first : Bool) (one : Pattern) (other : Word) → is_first one ≡ true → is_path_word other ≡ true
    → rule_at first (aggregator_words one other) ≡ Ok (ExceptRule.Aggregator one other)
unfolding rule_at head_of aggregator aggregator_words
aggregator_again first one other h k = rw (first_again one h, literal_again other k) refl

acl_again : (first : Bool) (n : ℕ) (words : List Text) → n < 256 → is_line words ≡ true → rule_at first (codes "acl_group" ∷ decimal n ∷ words) ≡ Ok (ExceptRule.Acl n words)
unfolding rule_at head_of acl_group
acl_again first n [] h k = absurd cc
acl_again first n (word ∷ words) h k = rw (plain_again 256 n h (omega (arith, h))) refl

-- Sides of controls

record Slashed (path : Text) : Type 0 where
  rest : Text
  is : path ≡ 47 ∷ rest

slashed_by : (path : Text) → begins_with_byte 47 path ≡ true → Slashed path
slashed_by [] h = absurd cc
slashed_by (b ∷ rest) h = record { rest = rest; is = ap (λ c. c ∷ rest) (eqb-true b 47 h) }

slashed : (path : Text) → is_path path ≡ true → Slashed path
slashed path h = slashed_by path (path_begins path h)

not_any : (path : Text) → is_path path ≡ true → texts_equal path (codes "any") ≡ false
not_any path h = let s = slashed path h in subst (λ (t : Text). texts_equal t (codes "any") ≡ false) (sym s.is) refl

not_open : (path : Text) → is_path path ≡ true → opens path ≡ false
not_open path h = let s = slashed path h in subst (λ (t : Text). opens t ≡ false) (sym s.is) refl

path_again : (path : Text) → is_path path ≡ true → path_word path ≡ Ok path
unfolding path_word
path_again path h = rw h refl

program_again : (program : Option Text) (last : Bool) → is_program program ≡ true → program_word (program_text program) last ≡ Ok program
unfolding program_word
program_again None last h = refl
program_again (Some path) last h = rw (not_any path h, path_again path h) refl

program_shut : (program : Option Text) → is_program program ≡ true → opens (program_text program) ≡ false
program_shut None h = refl
program_shut (Some path) h = not_open path h

name_again : (name : Text) (words : List Text) (rest : Text) (paths : List Text) → words ≡ (60 ∷ rest) ∷ paths → name_side words ≡ Ok (Some name, false) → domain_side words ≡ Ok (Some name, false)
unfolding domain_side
name_again name words rest paths e h =
    ap domain_side e ∙ opened (ap name_side (sym e) ∙ h)
  where
    opened : name_side ((60 ∷ rest) ∷ paths) ≡ Ok (Some name, false) → domain_side ((60 ∷ rest) ∷ paths) ≡ Ok (Some name, false)
    opened k = k

abbrev side_of : Text → Option Text × Bool
side_of name = (Some name, false)

side_again : (domain : Option Text) (last : Bool) → is_side domain last ≡ true → domain_side (domain_words domain last) ≡ Ok (domain, last)
unfolding domain_side
side_again None true h = absurd cc
side_again None false h = refl
side_again (Some path) true h = rw (not_any path h, not_open path h, path_again path h) refl
side_again (Some name) false h =
    let b = parts_begin name h in
    name_again name (domain_parts name) b.rest b.paths b.are (ap (λ (r : Result Text LineKind). r >>= λ x. Ok (side_of x)) (to_end_again name h))

head_again : (kind : ControlKind) → is_kind kind ≡ true → head_of (kind_text kind) ≡ Some (Head.Control kind)
unfolding head_of control_word
head_again ControlKind.NoReset h = refl
head_again ControlKind.Reset h = refl
head_again ControlKind.NoInitialize h = refl
head_again ControlKind.Initialize h = refl
head_again ControlKind.NoKeep h = refl
head_again ControlKind.Keep h = refl
head_again ControlKind.Ordinary h = absurd cc

from_again : (kind : ControlKind) (program domain : Option Text) (last : Bool) → is_side domain last ≡ true
    → from_side kind program (codes "from" ∷ domain_words domain last) ≡ Ok (control kind program (domain, last))
unfolding from_side
from_again kind program domain last h = rw (side_again domain last h) refl

sides_again : (kind : ControlKind) (program domain : Option Text) (last keep : Bool) → is_program program ≡ true → is_side domain last ≡ true
    → (if keep then keep_line kind (program_text program ∷ codes "from" ∷ domain_words domain last) else program_line kind (program_text program ∷ codes "from" ∷ domain_words domain last))
    ≡ Ok (control kind program (domain, last))
unfolding keep_line program_line
sides_again kind program domain last true h k = rw (program_shut program h, program_again program false h) (from_again kind program domain last k)
sides_again kind program domain last false h k = rw (program_again program false h) (from_again kind program domain last k)

control_again : (first : Bool) (c : Control) → is_control c ≡ true → rule_at first (control_words c) ≡ Ok (ExceptRule.Control c)
unfolding rule_at control_words
control_again first c h =
    let t = both (is_kind c.kind) (is_program c.program && is_side c.domain c.last) h in
    let s = both (is_program c.program) (is_side c.domain c.last) t.1 in
    let words = program_text c.program ∷ codes "from" ∷ domain_words c.domain c.last in
    ap (λ o. rule_by o first (kind_text c.kind) words) (head_again c.kind t.0)
    ∙ ap (λ (r : Result Control LineKind). r >>= λ found. Ok (ExceptRule.Control found)) (sides_again c.kind c.program c.domain c.last (is_keep c.kind) s.0 s.1)

-- Every rule

pub rule_again : (first : Bool) (rule : ExceptRule) → is_rule rule ≡ true → rule_at first (rule_words rule) ≡ Ok rule
unfolding is_rule rule_words
rule_again first (ExceptRule.PathGroup name member) h =
    let t = both (is_group name) (is_member member) h in
    path_group_again first name member t.0 t.1
rule_again first (ExceptRule.NumberGroup name member) h = let t = both (is_group name) (is_range member) h in number_group_again first name member t.0 t.1
rule_again first (ExceptRule.AddressGroup name member) h = let t = both (is_group name) (is_addr_range member) h in address_group_again first name member t.0 t.1
rule_again first (ExceptRule.Aggregator one other) h = let t = both (is_first one) (is_path_word other) h in aggregator_again first one other t.0 t.1
rule_again first (ExceptRule.Control c) h = control_again first c h
rule_again first (ExceptRule.Acl n words) h = let t = both (nat_lt n 256) (is_line words) h in acl_again first n words (ltb-true n 256 t.0) t.1

-- Lines

front_of : (name : Text) → opens name ≡ true → texts_equal name (codes "delete") ≡ false
front_of [] h = absurd cc
front_of (b ∷ name) h = subst (λ c. texts_equal (c ∷ name) (codes "delete") ≡ false) (sym (eqb-true b 60 h)) refl

named_again : (delete : Bool) (name : Text) (rule : ExceptRule) → IsNamespace name → is_rule rule ≡ true → named_line delete (name ∷ rule_words rule) ≡ Ok (line delete name rule)
unfolding named_line
named_again delete name rule h k = rw (named name (rule_words rule) h, rule_again (not delete && not (opens name)) rule k) refl

pub line_again : (delete : Bool) (name : Text) (rule : ExceptRule) → IsNamespace name → is_rule rule ≡ true → line_of (line_words (line delete name rule)) ≡ Ok (line delete name rule)
unfolding line_of line_words
line_again true name rule h k = named_again true name rule h k
line_again false name rule h k = rw (front_of name (opens_is name h)) (named_again false name rule h k)
