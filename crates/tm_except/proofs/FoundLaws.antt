-- A rule that was read is one that a line can write.
use Rattle.std.proofs.Common.{◌≡◌, ℕ, ◌<◌, ◌==◌, nat_lt, Bool, true, false, ◌&&◌, not, List, [], ◌∷◌, Some, None, Result, Ok, Err, refl, sym, ap, subst, ◌∙◌}
use Rattle.std.specs.Prelude.{Option, codes, if◌then◌else◌}
use Rattle.std.specs.Prelude.{map}
use Rattle.std.specs.Option.{option_or}
use Rattle.std.specs.List.{list_all}
use Rattle.tm_word.specs.Prelude.{Pattern, Text, Word, begins_with_byte, is_empty, named, or_else, row_of, spell, spelled_pattern, spelled_word, texts_equal}
use Rattle.tm_word.proofs.Named.{named_or}
use Rattle.tm_except.specs.Printing.{kind_text}
use Rattle.tm_except.specs.Reading.{controls, lists}
use Rattle.std.proofs.lemmas.Bool.{lt-ltb}
use Rattle.tm_pattern.specs.Grammar.{is_right}
use Rattle.tm_word.proofs.Spelled.{word_found, word_small}
use Rattle.tm_rules.specs.Types.{Control, ControlKind, ExceptLine, ExceptRule, LineKind}
use Rattle.tm_rules.specs.Prelude.{is_domain_name, is_path_word}
use Rattle.tm_line.specs.Names.{is_path}
use Rattle.tm_line.specs.Lines.{or_kind, is_last, ended, word_at}
use Rattle.tm_line.specs.Arguments.{group_word, pattern_word, path_word, range_word, addr_range_word, plain_word}
use Rattle.tm_line.specs.Domains.{domain_to_end}
use Rattle.tm_line.specs.Written.{is_group, begins_name, is_range, is_addr_range}
use Rattle.tm_line.proofs.Steps.{all}
use Rattle.tm_line.proofs.GroupLaws.{group_found}
use Rattle.tm_line.proofs.NameArgLaws.{pattern_read}
use Rattle.tm_line.proofs.NumberArgLaws.{range_read, plain_read}
use Rattle.tm_line.proofs.AddrArgLaws.{range_read as addr_range_read}
use Rattle.tm_line.proofs.DomainLaws.{to_end_right}
use Rattle.tm_line.specs.Namespaces.{opens, namespace_at, IsNamespace}
use Rattle.tm_line.proofs.NamespaceLaws.{found_is}
use Rattle.tm_line.proofs.OkSteps.{OkIs, then_ok, if_ok, each_ok, word_ok, ok_of}
use Rattle.tm_except.specs.declared.reading.Head.{Head}
use Rattle.tm_except.specs.Reading.{member_word, first_word, literal_word, path_group, number_group, address_group, aggregator, group_line, acl_group, program_by, program_word, any_domain, path_side, name_side, domain_side, control, from_side, program_line, alone, keep_side, keep_line, is_keep, control_sides, control_line, control_word, control_head, head_of, rule_by, rule_at, named_line, line_of}
use Rattle.tm_except.specs.Written.{is_member, is_first, is_kind, is_program, is_side, is_control, is_rule}

end_ok : {A : Type 0} (P : A → Type 0) (x : A) (words : List Text) → P x → OkIs P (ended x words)
end_ok P x [] h = h
end_ok P x (word ∷ words) h = tt

-- Single words

group_ok : (text : Text) → OkIs (λ g. is_group g ≡ true) (group_word text)
group_ok text = each_ok (λ g. is_group g ≡ true) (group_word text) (λ g e. (group_found text g e).1)

range_ok : (text : Text) → OkIs (λ r. is_range r ≡ true) (range_word text)
range_ok text = each_ok (λ r. is_range r ≡ true) (range_word text) (λ r e. range_read text r e)

addr_range_ok : (text : Text) → OkIs (λ r. is_addr_range r ≡ true) (addr_range_word text)
addr_range_ok text = each_ok (λ r. is_addr_range r ≡ true) (addr_range_word text) (λ r e. addr_range_read text r e)

number_ok : (text : Text) → OkIs (λ n. n < 256) (plain_word 256 text)
number_ok text = each_ok (λ n. n < 256) (plain_word 256 text) (λ n e. plain_read 256 text n e)

abbrev IsMember : Pattern → Type 0
IsMember member = is_member member ≡ true

member_found : (text : Text) (member : Pattern) → begins_name text ≡ true → pattern_word text ≡ Ok member → IsMember member
member_found text member h e =
    let found = pattern_read text member e in
    all (is_right member) (begins_name (spelled_pattern member)) found.1 (subst (λ (t : Text). begins_name t ≡ true) found.0 h)

member_ok : (text : Text) → OkIs IsMember (member_word text)
unfolding member_word
member_ok text = by_front (begins_name text) refl
  where
    by_front : (b : Bool) → begins_name text ≡ b → OkIs IsMember (if b then pattern_word text else Err LineKind.Name)
    by_front true h = each_ok IsMember (pattern_word text) (λ member e. member_found text member h e)
    by_front false h = tt

abbrev IsFirst : Pattern → Type 0
IsFirst one = is_first one ≡ true

first_found : (b : ℕ) (text : Text) (one : Pattern) → pattern_word (b ∷ text) ≡ Ok one → IsFirst one
first_found b text one e =
    let found = pattern_read (b ∷ text) one e in
    all (is_right one) (not (is_empty (spelled_pattern one))) found.1 (subst (λ (t : Text). not (is_empty t) ≡ true) found.0 refl)

first_ok : (text : Text) → OkIs IsFirst (first_word text)
unfolding first_word
first_ok [] = tt
first_ok (b ∷ text) = each_ok IsFirst (pattern_word (b ∷ text)) (λ one e. first_found b text one e)

-- the first byte of a name is `/` where its spelling begins so
front_47 : (word : Word) → begins_with_byte 47 (spell word) ≡ true → begins_with_byte 47 word ≡ true
front_47 [] h = absurd cc
front_47 (b ∷ word) h = by_byte (b == 92) refl (nat_lt 32 b && nat_lt b 127) refl h
  where
    by_byte : (s : Bool) → (b == 92) ≡ s → (t : Bool) → (nat_lt 32 b && nat_lt b 127) ≡ t → begins_with_byte 47 (spell (b ∷ word)) ≡ true → begins_with_byte 47 (b ∷ word) ≡ true
    by_byte true e t f k = absurd (let no : begins_with_byte 47 (spell (b ∷ word)) ≡ false = rw e refl in cc)
    by_byte false e true f k = (let is : begins_with_byte 47 (spell (b ∷ word)) ≡ (b == 47) = rw (e, f) refl in sym is ∙ k)
    by_byte false e false f k = absurd (let no : begins_with_byte 47 (spell (b ∷ word)) ≡ false = rw (e, f) refl in cc)

literal_found : (text : Text) (word : Word) → begins_with_byte 47 text ≡ true → spelled_word text ≡ Some word → is_path_word word ≡ true
literal_found text word h e =
    all (begins_with_byte 47 word) (list_all (λ b. nat_lt b 256) word) (front_47 word (subst (λ (t : Text). begins_with_byte 47 t ≡ true) (word_found text word e) h)) (word_small text word e)

abbrev IsLiteral : Word → Type 0
IsLiteral word = is_path_word word ≡ true

literal_ok : (text : Text) → OkIs IsLiteral (literal_word text)
unfolding literal_word
literal_ok text = by_front (begins_with_byte 47 text) refl
  where
    by_word : begins_with_byte 47 text ≡ true → (o : Option Word) → spelled_word text ≡ o → OkIs IsLiteral (or_kind LineKind.Name o)
    by_word h None e = tt
    by_word h (Some word) e = literal_found text word h e

    by_front : (b : Bool) → begins_with_byte 47 text ≡ b → OkIs IsLiteral (if b then or_kind LineKind.Name (spelled_word text) else Err LineKind.Name)
    by_front true h = by_word h (spelled_word text) refl
    by_front false h = tt

-- Groups and aggregators

abbrev IsRule : ExceptRule → Type 0
IsRule rule = is_rule rule ≡ true

path_group_ok : (words : List Text) → OkIs IsRule (path_group words)
unfolding path_group is_rule
path_group_ok words =
    then_ok _ IsRule (word_at group_word words) _ (word_ok (λ g. is_group g ≡ true) group_word words group_ok)
    (λ name h. then_ok _ IsRule (word_at member_word name.1) _ (word_ok IsMember member_word name.1 member_ok)
    (λ member k. end_ok IsRule (ExceptRule.PathGroup name.0 member.0) member.1 (all (is_group name.0) _ h k)))

number_group_ok : (words : List Text) → OkIs IsRule (number_group words)
unfolding number_group is_rule
number_group_ok words =
    then_ok _ IsRule (word_at group_word words) _ (word_ok (λ g. is_group g ≡ true) group_word words group_ok)
    (λ name h. then_ok _ IsRule (word_at range_word name.1) _ (word_ok (λ r. is_range r ≡ true) range_word name.1 range_ok)
    (λ member k. end_ok IsRule (ExceptRule.NumberGroup name.0 member.0) member.1 (all (is_group name.0) (is_range member.0) h k)))

address_group_ok : (words : List Text) → OkIs IsRule (address_group words)
unfolding address_group is_rule
address_group_ok words =
    then_ok _ IsRule (word_at group_word words) _ (word_ok (λ g. is_group g ≡ true) group_word words group_ok)
    (λ name h. then_ok _ IsRule (word_at addr_range_word name.1) _ (word_ok (λ r. is_addr_range r ≡ true) addr_range_word name.1 addr_range_ok)
    (λ member k. end_ok IsRule (ExceptRule.AddressGroup name.0 member.0) member.1 (all (is_group name.0) (is_addr_range member.0) h k)))

aggregator_ok : (words : List Text) → OkIs IsRule (aggregator words)
unfolding aggregator is_rule
aggregator_ok words =
    then_ok _ IsRule (word_at first_word words) _ (word_ok IsFirst first_word words first_ok)
    (λ one h. then_ok _ IsRule (word_at literal_word one.1) _ (word_ok IsLiteral literal_word one.1 literal_ok)
    (λ other k. end_ok IsRule (ExceptRule.Aggregator one.0 other.0) other.1 (all (is_first one.0) (is_path_word other.0) h k)))

group_line_ok : (n : ℕ) (words : List Text) → n < 256 → OkIs IsRule (group_line n words)
unfolding is_rule
group_line_ok n [] h = tt
group_line_ok n (word ∷ words) h = all (nat_lt n 256) true (lt-ltb n 256 h) refl

acl_group_ok : (words : List Text) → OkIs IsRule (acl_group words)
unfolding acl_group
acl_group_ok words = then_ok _ IsRule (word_at (plain_word 256) words) _ (word_ok (λ n. n < 256) (plain_word 256) words number_ok) (λ n h. group_line_ok n.0 n.1 h)

-- Controls

abbrev IsProgram : Option Text → Type 0
IsProgram program = is_program program ≡ true

abbrev IsSide : Option Text × Bool → Type 0
IsSide side = is_side side.0 side.1 ≡ true

abbrev IsControl : Control → Type 0
IsControl c = is_control c ≡ true

path_found : (text path : Text) → path_word text ≡ Ok path → is_path path ≡ true
unfolding path_word
path_found text path h = by_path (is_path text) refl h
  where
    text_in : Result Text LineKind → Text
    text_in (Ok found) = found
    text_in (Err kind) = []

    by_path : (b : Bool) → is_path text ≡ b → (if b then Ok text else Err LineKind.Name) ≡ Ok path → is_path path ≡ true
    by_path true e k = subst (λ (t : Text). is_path t ≡ true) (ap text_in k) e
    by_path false e k = absurd cc

program_ok : (word : Text) (last : Bool) → OkIs IsProgram (program_word word last)
unfolding program_word
program_ok word last = if_ok IsProgram (texts_equal word (codes "any")) (Ok None) (program_by (path_word word) word last) refl (by_word (path_word word) refl)
  where
    by_word : (r : Result Text LineKind) → path_word word ≡ r → OkIs IsProgram (program_by r word last)
    by_word (Ok path) e = path_found word path e
    by_word (Err kind) e = tt

path_side_ok : (r : Result Text LineKind) (word : Text) (words : List Text) → path_word word ≡ r → OkIs IsSide (path_side r word words)
path_side_ok (Ok path) word words e = end_ok IsSide (Some path, true) words (path_found word path e)
path_side_ok (Err kind) word words e = tt

name_side_ok : (words : List Text) → OkIs IsSide (name_side words)
name_side_ok words = then_ok (λ name. is_domain_name is_path name ≡ true) IsSide (domain_to_end words) _ (each_ok (λ name. is_domain_name is_path name ≡ true) (domain_to_end words) (λ name e. to_end_right words name e)) (λ name h. h)

side_ok : (words : List Text) → OkIs IsSide (domain_side words)
unfolding domain_side
side_ok [] = tt
side_ok (word ∷ words) =
    if_ok IsSide (texts_equal word (codes "any")) (ended any_domain words) _ (end_ok IsSide any_domain words refl)
    (if_ok IsSide (opens word) (name_side (word ∷ words)) (path_side (path_word word) word words) (name_side_ok (word ∷ words)) (path_side_ok (path_word word) word words refl))

made : (kind : ControlKind) (program : Option Text) (side : Option Text × Bool) → is_kind kind ≡ true → IsProgram program → IsSide side → IsControl (control kind program side)
made kind program side h k l = all (is_kind kind) (is_program program && is_side side.0 side.1) h (all (is_program program) (is_side side.0 side.1) k l)

from_ok : (kind : ControlKind) (program : Option Text) (words : List Text) → is_kind kind ≡ true → IsProgram program → OkIs IsControl (from_side kind program words)
unfolding from_side
from_ok kind program [] h k = made kind program any_domain h k refl
from_ok kind program (word ∷ words) h k =
    if_ok IsControl (texts_equal word (codes "from")) _ (Err LineKind.Arity) (then_ok IsSide IsControl (domain_side words) _ (side_ok words) (λ side l. made kind program side h k l)) tt

program_line_ok : (kind : ControlKind) (words : List Text) → is_kind kind ≡ true → OkIs IsControl (program_line kind words)
unfolding program_line
program_line_ok kind [] h = tt
program_line_ok kind (word ∷ words) h = then_ok IsProgram IsControl (program_word word (is_last words)) _ (program_ok word (is_last words)) (λ program k. from_ok kind program words h k)

alone_ok : (side : Option Text) → IsProgram side → IsSide (alone side)
alone_ok None h = refl
alone_ok (Some path) h = h

keep_side_ok : (kind : ControlKind) (side : Option Text) (words : List Text) → is_kind kind ≡ true → IsProgram side → OkIs IsControl (keep_side kind side words)
keep_side_ok kind side [] h k = made kind None (alone side) h refl (alone_ok side k)
keep_side_ok kind side (word ∷ words) h k = from_ok kind side (word ∷ words) h k

keep_line_ok : (kind : ControlKind) (words : List Text) → is_kind kind ≡ true → OkIs IsControl (keep_line kind words)
unfolding keep_line
keep_line_ok kind [] h = tt
keep_line_ok kind (word ∷ words) h =
    if_ok IsControl (opens word) _ _
    (then_ok IsSide IsControl (name_side (word ∷ words)) _ (name_side_ok (word ∷ words)) (λ side l. made kind None side h refl l))
    (then_ok IsProgram IsControl (program_word word (is_last words)) _ (program_ok word (is_last words)) (λ side k. keep_side_ok kind side words h k))

control_ok : (kind : ControlKind) (words : List Text) → is_kind kind ≡ true → OkIs IsRule (control_line kind words)
unfolding is_rule
control_ok kind words h =
    then_ok IsControl IsRule (control_sides kind words) _ (if_ok IsControl (is_keep kind) (keep_line kind words) (program_line kind words) (keep_line_ok kind words h) (program_line_ok kind words h)) (λ c k. k)

-- Every rule

-- the kind of a head is one of the six
abbrev HeadIs : Option Head → Type 0
HeadIs (Some (Head.Control kind)) = is_kind kind ≡ true
HeadIs _ = Unit {0}

kind_by : (o : Option ControlKind) → is_kind (or_else o ControlKind.Keep) ≡ true → HeadIs (control_head o)
kind_by None h = tt
kind_by (Some kind) h = h

kind_ok : (word : Text) → HeadIs (control_head (control_word word))
unfolding control_word
kind_ok word = kind_by (control_word word) (named_or is_kind (map (row_of kind_text) controls) word ControlKind.Keep refl refl)

abbrev is_list : Head → Bool
is_list (Head.Control kind) = false
is_list _ = true

head_by : (o p : Option Head) → is_list (or_else o Head.Acl) ≡ true → HeadIs p → HeadIs (option_or o p)
head_by None p h k = k
head_by (Some Head.PathGroup) p h k = tt
head_by (Some Head.NumberGroup) p h k = tt
head_by (Some Head.AddressGroup) p h k = tt
head_by (Some Head.Aggregator) p h k = tt
head_by (Some Head.Acl) p h k = tt
head_by (Some (Head.Control kind)) p h k = absurd cc

head_ok : (word : Text) → HeadIs (head_of word)
unfolding head_of
head_ok word = head_by (named lists word) (control_head (control_word word)) (named_or is_list lists word Head.Acl refl refl) (kind_ok word)

by_ok : (o : Option Head) (first : Bool) (word : Text) (words : List Text) → HeadIs o → OkIs IsRule (rule_by o first word words)
by_ok (Some Head.PathGroup) first word words h = path_group_ok words
by_ok (Some Head.NumberGroup) first word words h = number_group_ok words
by_ok (Some Head.AddressGroup) first word words h = address_group_ok words
by_ok (Some Head.Aggregator) first word words h = aggregator_ok words
by_ok (Some (Head.Control kind)) first word words h = control_ok kind words h
by_ok (Some Head.Acl) first word words h = acl_group_ok words
by_ok None first word words h = tt

rule_ok : (first : Bool) (words : List Text) → OkIs IsRule (rule_at first words)
unfolding rule_at
rule_ok first [] = tt
rule_ok first (word ∷ words) = by_ok (head_of word) first word words (head_ok word)

-- Lines

abbrev LineFits : ExceptLine → Type 0
LineFits found = IsNamespace found.namespace × IsRule found.rule

abbrev Found : Text × List Text → Type 0
Found found = IsNamespace found.0

named_ok : (delete : Bool) (words : List Text) → OkIs LineFits (named_line delete words)
unfolding named_line
named_ok delete [] = tt
named_ok delete (word ∷ words) =
    then_ok Found LineFits (namespace_at (word ∷ words)) _ (each_ok Found (namespace_at (word ∷ words)) (λ found e. found_is (word ∷ words) found.0 found.1 e))
    (λ found h. then_ok IsRule LineFits (rule_at (not delete && not (opens word)) found.1) _ (rule_ok (not delete && not (opens word)) found.1) (λ rule k. (h, k)))

line_ok : (words : List Text) → OkIs LineFits (line_of words)
unfolding line_of
line_ok [] = tt
line_ok (word ∷ words) = if_ok LineFits (texts_equal word (codes "delete")) (named_line true words) (named_line false (word ∷ words)) (named_ok true words) (named_ok false (word ∷ words))

pub line_found : (words : List Text) (l : ExceptLine) → line_of words ≡ Ok l → IsNamespace l.namespace × (is_rule l.rule ≡ true)
line_found words l e = ok_of LineFits (line_of words) l (line_ok words) e
