-- What is printed is made of words: they are found again in the line that joins them.
use Rattle.std.proofs.Common.{◌≡◌, ℕ, suc, ◌-◌, ◌*◌, ◌<◌, ◌≤◌, ◌^◌, ◌==◌, nat_lt, nat_le, Bool, true, false, cond, ◌&&◌, ◌||◌, not, List, [], ◌∷◌, ◌++◌, length, take, drop, Some, Result, Ok, Err, refl, sym, ap, subst, ◌∙◌, arith, eq-eqb}
use Rattle.std.specs.Prelude.{codes, bit_and}
use Rattle.std.specs.List.{list_all, flat_map, filter, slice_split, onto_first}
use Rattle.std.specs.Char.{digit_value}
use Rattle.std.specs.Fmt.{digits, decimal}
use Rattle.std.proofs.lemmas.Bool.{ne_eqb, lt-ltb, le-ltb, ltb-true, leb-true}
use Rattle.std.proofs.lemmas.Fmt.{decimal_is_IsNumeral, digits_is_IsNumeral}
use Rattle.std.proofs.lemmas.List.{append-nil}
use Rattle.std.proofs.lemmas.List.Folds.{list_all-append}
use Rattle.std.proofs.lemmas.List.Splits.{slice_split-cons_no, slice_split-cons_yes}
use Rattle.tm_word.specs.declared.Element.{Element}
use Rattle.tm_word.specs.declared.Component.{Component}
use Rattle.tm_word.specs.declared.Repeat.{Repeat}
use Rattle.tm_word.specs.Prelude.{Part, Pattern, Text, Word, begins_with_byte, closing, is_empty, is_once, is_separator, is_solid, is_word, joined, opening, spell, spelled_component, spelled_element, spelled_minus, spelled_part, spelled_pattern, spelling_of, texts_equal, words_of}
use Rattle.tm_addr.specs.Addr.{Addr}
use Rattle.tm_addr.specs.AddrRange.{AddrRange}
use Rattle.tm_addr.specs.Base.{Base}
use Rattle.tm_addr.specs.Range.{Range}
use Rattle.tm_addr.specs.Numbers.{spelling, range_spelling, same_base}
use Rattle.tm_addr.specs.Printing.{IsAddr, addr_spelling, same_addr, addr_range_spelling}
use Rattle.tm_addr.proofs.Free.{Free, free_digits}
use Rattle.tm_addr.proofs.V4Laws.{v4_free}
use Rattle.tm_addr.proofs.V6Laws.{v6_free}
use Rattle.tm_domain.specs.Grammar.{is_right_element, is_full, is_right_component, are_right, is_right}
use Rattle.tm_domain.specs.NameUnion.{NameUnion}
use Rattle.tm_domain.specs.NumberUnion.{NumberUnion}
use Rattle.tm_domain.specs.AddrUnion.{AddrUnion}
use Rattle.tm_addr.specs.Numbers.{range_of, number_of}
use Rattle.tm_addr.specs.Reading.{addr_of, v4_of}
use Rattle.tm_addr.specs.Reading.{range_of as addr_range_of}
use Rattle.tm_domain.specs.PatternFault.{PatternFault}
use Rattle.tm_domain.specs.Reading.{pattern_of}
use Rattle.tm_domain.proofs.LexLaws.{pattern_found}
use Rattle.tm_domain.proofs.RightLaws.{read-right}
use Rattle.tm_domain.specs.Words.{DomainName}
use Rattle.tm_domain.specs.Transition.{is_namespace_word, is_domain_name, root_name}
use Rattle.std.specs.Result.{is_ok}
use Rattle.tm_domain.specs.Names.{is_path}
use Rattle.tm_domain.proofs.NameLaws.{same_texts}
use Rattle.tm_line.specs.declared.permissions.Row.{Row}
use Rattle.tm_line.specs.Lines.{spaced}
use Rattle.tm_line.specs.Permissions.{names, pieces_of, bits_of, perm_on, perms_from, perms_spelling}
use Rattle.tm_line.specs.Arguments.{range_word, addr_range_word, number_word, address_word}
use Rattle.tm_line.specs.DomainWords.{domain_parts}
use Rattle.tm_line.specs.Printing.{name_spelling, number_spelling, address_spelling}
use Rattle.tm_line.specs.Written.{is_group, begins_name, is_name, is_range, is_number, is_addr_range, is_address, is_set}
use Rattle.tm_line.proofs.Steps.{both, all, not_true}
use Rattle.tm_line.proofs.JoinLaws.{joined_is}
use Rattle.tm_word.proofs.Spelled.{below, below-at}
use Rattle.tm_line.proofs.NumberArgLaws.{ends, number_again}
use Rattle.tm_line.proofs.PermLaws.{bits_again}
use Rattle.tm_line.proofs.DomainLaws.{right_list}
use Rattle.tm_line.proofs.AddrArgLaws as addresses

-- ---- words that were joined are found again

cut_at : (w rest : Text) → is_solid w ≡ true → slice_split is_separator (w ++ 32 ∷ rest) ≡ w ∷ slice_split is_separator rest
cut_at [] rest h = slice_split-cons_yes is_separator 32 rest refl
cut_at (b ∷ w) rest h =
    let t = both (not (is_separator b)) (is_solid w) h in
    slice_split-cons_no is_separator b (w ++ 32 ∷ rest) (not_true (is_separator b) t.0) ∙ ap (onto_first b) (cut_at w rest t.1)

uncut : (w : Text) → is_solid w ≡ true → slice_split is_separator w ≡ w ∷ []
uncut [] h = refl
uncut (b ∷ w) h =
    let t = both (not (is_separator b)) (is_solid w) h in
    slice_split-cons_no is_separator b w (not_true (is_separator b) t.0) ∙ ap (onto_first b) (uncut w t.1)

all_solid : (ws : List Text) → list_all is_word ws ≡ true → list_all is_solid ws ≡ true
all_solid [] h = refl
all_solid (w ∷ ws) h =
    let t = both (is_word w) (list_all is_word ws) h in
    let p = both (not (length w == 0)) (is_solid w) t.0 in
    rw p.1 (all_solid ws t.1)

pieces : (w : Text) (ws : List Text) → is_solid w ≡ true → list_all is_solid ws ≡ true → slice_split is_separator (w ++ spaced ws) ≡ w ∷ ws
pieces w [] h k = ap (slice_split is_separator) (append-nil w) ∙ uncut w h
pieces w (v ∷ vs) h k = let t = both (is_solid v) (list_all is_solid vs) k in cut_at w (v ++ spaced vs) h ∙ ap (λ (ps : List Text). w ∷ ps) (pieces v vs t.0 t.1)

kept : (ws : List Text) → list_all is_word ws ≡ true → filter (λ run. not (length run == 0)) ws ≡ ws
kept [] h = refl
kept (w ∷ ws) h =
    let t = both (is_word w) (list_all is_word ws) h in
    let p = both (not (length w == 0)) (is_solid w) t.0 in
    rw p.0 (ap (λ (xs : List Text). w ∷ xs) (kept ws t.1))

pub words_again : (ws : List Text) → list_all is_word ws ≡ true → words_of (joined ws) ≡ ws
unfolding words_of
words_again [] h = refl
words_again (w ∷ ws) h =
    let t = both (is_word w) (list_all is_word ws) h in
    let p = both (not (length w == 0)) (is_solid w) t.0 in
    ap words_of (joined_is w ws) ∙ ap (filter (λ (run : Text). not (length run == 0))) (pieces w ws p.1 (all_solid ws t.1)) ∙ kept (w ∷ ws) h

-- ---- solid texts

pub solid_append : (xs ys : Text) → is_solid xs ≡ true → is_solid ys ≡ true → is_solid (xs ++ ys) ≡ true
solid_append xs ys h k = list_all-append (λ b. not (is_separator b)) xs ys ∙ rw (h, k) refl

pub word_from : (b : ℕ) (text : Text) → is_solid (b ∷ text) ≡ true → is_word (b ∷ text) ≡ true
word_from b text h = let some : (suc (length text) == 0) ≡ false = ne_eqb _ _ (λ e. absurd (omega (arith, e))) in rw (some, h) refl

solid_spelling : below 256 (λ b. is_solid (spelling_of b)) ≡ true
unfolding below
solid_spelling = refl

pub spell_solid : (w : Word) → list_all (λ c. nat_lt c 256) w ≡ true → is_solid (spell w) ≡ true
spell_solid [] h = refl
spell_solid (b ∷ w) h =
    let t = both (nat_lt b 256) (list_all (λ c. nat_lt c 256) w) h in
    solid_append (spelling_of b) (spell w) (below-at 256 (λ c. is_solid (spelling_of c)) b solid_spelling (ltb-true _ _ t.0)) (spell_solid w t.1)

-- ---- patterns

element_solid : (e : Element) → is_right_element e ≡ true → is_solid (spelled_element e) ≡ true
element_solid (Element.Byte b) h = below-at 256 (λ c. is_solid (spelling_of c)) b solid_spelling (ltb-true _ _ (both (nat_lt b 256) (not (b == 47)) h).0)
element_solid Element.Star h = refl
element_solid Element.NoDot h = refl
element_solid Element.One h = refl
element_solid Element.Digits h = refl
element_solid Element.Digit h = refl
element_solid Element.Hexes h = refl
element_solid Element.Hex h = refl
element_solid Element.Letters h = refl
element_solid Element.Letter h = refl

elements_solid : (part : Part) → list_all is_right_element part ≡ true → is_solid (spelled_part part) ≡ true
elements_solid [] h = refl
elements_solid (e ∷ es) h =
    let t = both (is_right_element e) (list_all is_right_element es) h in
    solid_append (spelled_element e) (spelled_part es) (element_solid e t.0) (elements_solid es t.1)

full_solid : (part : Part) → is_full part ≡ true → is_solid (spelled_part part) ≡ true
full_solid [] h = absurd cc
full_solid (e ∷ es) h = elements_solid (e ∷ es) h

minus_solid : (parts : List Part) → list_all is_full parts ≡ true → is_solid (spelled_minus parts) ≡ true
minus_solid [] h = refl
minus_solid (part ∷ parts) h =
    let t = both (is_full part) (list_all is_full parts) h in
    solid_append (spelled_part part) (spelled_minus parts) (full_solid part t.0) (minus_solid parts t.1)

opening_solid : (r : Repeat) → is_solid (opening r) ≡ true
opening_solid Repeat.Once = refl
opening_solid Repeat.OneOrMore = refl
opening_solid Repeat.ZeroOrMore = refl

closing_solid : (r : Repeat) → is_solid (closing r) ≡ true
closing_solid Repeat.Once = refl
closing_solid Repeat.OneOrMore = refl
closing_solid Repeat.ZeroOrMore = refl

first_solid : (part : Part) (full once none : Bool) → is_full part ≡ full → (full || (is_empty part && once && none)) ≡ true → is_solid (spelled_part part) ≡ true
first_solid part true once none e h = full_solid part e
first_solid [] false once none e h = refl
first_solid (x ∷ part) false once none e h = absurd cc

component_solid : (c : Component) → is_right_component c ≡ true → is_solid (spelled_component c) ≡ true
component_solid c h =
    let t = both (is_full c.first || (is_empty c.first && is_once c.repeat && is_empty c.minus)) (list_all is_full c.minus) h in
    let first = first_solid c.first (is_full c.first) (is_once c.repeat) (is_empty c.minus) refl t.0 in
    let front : is_solid (opening c.repeat ++ spelled_part c.first) ≡ true = solid_append (opening c.repeat) (spelled_part c.first) (opening_solid c.repeat) first in
    let most = solid_append (opening c.repeat ++ spelled_part c.first) (spelled_minus c.minus) front (minus_solid c.minus t.1) in
    solid_append (opening c.repeat ++ spelled_part c.first ++ spelled_minus c.minus) (closing c.repeat) most (closing_solid c.repeat)

others_solid : (c : Component) (cs : Pattern) → are_right c cs ≡ true → (is_solid (spelled_component c) ≡ true) × (is_solid (flat_map (λ d. 47 ∷ spelled_component d) cs) ≡ true)
others_solid c [] h = let t = both (is_right_component c) (is_once c.repeat) h in (component_solid c t.0, refl)
others_solid c (d ∷ ds) h =
    let t = both (is_right_component c) (are_right d ds) h in
    let more = others_solid d ds t.1 in
    (component_solid c t.0, solid_append (spelled_component d) (flat_map (λ x. 47 ∷ spelled_component x) ds) more.0 more.1)

pub pattern_solid : (p : Pattern) → is_right p ≡ true → is_solid (spelled_pattern p) ≡ true
unfolding is_right spelled_pattern
pattern_solid [] h = absurd cc
pattern_solid (c ∷ cs) h =
    let t = both (is_once c.repeat) (are_right c cs) h in
    let parts = others_solid c cs t.1 in
    solid_append (spelled_component c) (flat_map (λ d. 47 ∷ spelled_component d) cs) parts.0 parts.1

-- ---- numbers and addresses

digit_by : (c : ℕ) (low : Bool) → nat_le c 32 ≡ low → (low || nat_le 127 c) ≡ true → digit_value c ≡ 36
digit_by c true e h = let small : nat_lt c 48 ≡ true = lt-ltb _ _ (omega (arith, leb-true _ _ e)) in rw small refl
digit_by c false e h =
    let big : 127 ≤ c = leb-true _ _ h in
    let a : nat_lt c 48 ≡ false = le-ltb _ _ (omega (arith, big)) in
    let b : nat_lt c 58 ≡ false = le-ltb _ _ (omega (arith, big)) in
    let d : nat_lt c 65 ≡ false = le-ltb _ _ (omega (arith, big)) in
    let f : nat_lt c 91 ≡ false = le-ltb _ _ (omega (arith, big)) in
    let g : nat_lt c 97 ≡ false = le-ltb _ _ (omega (arith, big)) in
    let i : nat_lt c 123 ≡ false = le-ltb _ _ (omega (arith, big)) in
    rw (a, b, d, f, g, i) refl

-- what separates words is no digit
no_digit : (c : ℕ) → is_separator c ≡ true → digit_value c ≡ 36
no_digit c h = digit_by c (nat_le c 32) refl h

-- no byte of the text separates words
abbrev AllFree : Text → Type 0
AllFree text = (c : ℕ) → is_separator c ≡ true → Free c text

by_byte : (b : ℕ) (text : Text) (t : Bool) → is_separator b ≡ t → (is_separator b ≡ true → (b == b) ≡ false) → is_solid text ≡ true → is_solid (b ∷ text) ≡ true
by_byte b text true e h k = let no : (b == b) ≡ false = h e in let yes : (b == b) ≡ true = eq-eqb b b refl in absurd cc
by_byte b text false e h k = rw e k

free_solid : (text : Text) → AllFree text → is_solid text ≡ true
free_solid [] h = refl
free_solid (b ∷ text) h = by_byte b text (is_separator b) refl (λ e. (h b e).0) (free_solid text (λ c k. (h c k).1))

one_free : (c b : ℕ) → is_separator c ≡ true → is_separator b ≡ false → (b == c) ≡ false
one_free c b h k = ne_eqb b c (λ e. let yes : is_separator b ≡ true = ap is_separator e ∙ h in let no : true ≡ false = sym yes ∙ k in absurd cc)

spelling_free : (base : Base) (n : ℕ) → n < 2 ^ 64 → AllFree (spelling base n)
spelling_free Base.Decimal n h c k = let v = no_digit c k in free_digits c 10 (decimal n) (omega (arith, v)) (decimal_is_IsNumeral n h).0.1
spelling_free Base.Octal n h c k =
    let v = no_digit c k in
    (one_free c 48 k refl, free_digits c 8 (digits 8 false n) (omega (arith, v)) (digits_is_IsNumeral 8 false (omega arith) (omega arith) n (below_power n h)).0.1)
  where
    below_power : (n : ℕ) → n < 2 ^ 64 → n < 8 ^ 64
    below_power n h = omega (arith, h)
spelling_free Base.Hex n h c k =
    let v = no_digit c k in
    (one_free c 48 k refl, (one_free c 120 k refl, free_digits c 16 (digits 16 true n) (omega (arith, v)) (digits_is_IsNumeral 16 true (omega arith) (omega arith) n (below_power n h)).0.1))
  where
    below_power : (n : ℕ) → n < 2 ^ 64 → n < 16 ^ 64
    below_power n h = omega (arith, h)

number_solid : (base : Base) (n : ℕ) → n < 2 ^ 64 → is_solid (spelling base n) ≡ true
number_solid base n h = free_solid (spelling base n) (spelling_free base n h)

ends_solid : (low high : Text) (t : Bool) → is_solid low ≡ true → is_solid high ≡ true → is_solid (cond t low (low ++ 45 ∷ high)) ≡ true
ends_solid low high true h k = h
ends_solid low high false h k = solid_append low (45 ∷ high) h k

range_solid : (r : Range) → is_range r ≡ true → is_solid (range_spelling r) ≡ true
range_solid r h =
    let is = ends r h in
    ends_solid (spelling r.low.base r.low.value) (spelling r.high.base r.high.value) (r.low.value == r.high.value && same_base r.low.base r.high.base) (number_solid r.low.base r.low.value is.low) (number_solid r.high.base r.high.value is.high)

addr_free : (a : Addr) → IsAddr a → AllFree (addr_spelling a)
addr_free (Addr.V4 a) h c k = let v = no_digit c k in v4_free c a (omega (arith, v)) (one_free c 46 k refl) h
addr_free (Addr.V6 a) h c k = let v = no_digit c k in v6_free c a (omega (arith, v)) (one_free c 58 k refl)

addr_range_solid : (r : AddrRange) → is_addr_range r ≡ true → is_solid (addr_range_spelling r) ≡ true
addr_range_solid r h =
    let is = addresses.ends r h in
    ends_solid (addr_spelling r.low) (addr_spelling r.high) (same_addr r.low r.high) (free_solid (addr_spelling r.low) (addr_free r.low is.low)) (free_solid (addr_spelling r.high) (addr_free r.high is.high))

-- ---- arguments are words

full : (b : ℕ) (text : Text) → (length (b ∷ text) == 0) ≡ false
full b text = ne_eqb _ _ (λ e. absurd (omega (arith, e)))

group_solid : (g : Word) → is_group g ≡ true → is_solid (64 ∷ spell g) ≡ true
group_solid [] h = absurd cc
group_solid (b ∷ g) h = spell_solid (b ∷ g) h

pub spelled_solid : (g : Word) → is_group g ≡ true → is_solid (spell g) ≡ true
spelled_solid [] h = absurd cc
spelled_solid (b ∷ g) h = spell_solid (b ∷ g) h

group_is : (g : Word) → is_group g ≡ true → is_word (64 ∷ spell g) ≡ true
group_is g h = word_from 64 (spell g) (group_solid g h)

text_is : (text : Text) → begins_name text ≡ true → is_solid text ≡ true → is_word text ≡ true
text_is [] h k = absurd cc
text_is (b ∷ text) h k = word_from b text k

pub name_is : (n : NameUnion) → is_name n ≡ true → is_word (name_spelling n) ≡ true
unfolding is_name name_spelling
name_is (NameUnion.One p) h = let t = both (is_right p) (begins_name (spelled_pattern p)) h in text_is (spelled_pattern p) t.1 (pattern_solid p t.0)
name_is (NameUnion.Group g) h = group_is g h

number_text : (text : Text) (n : NumberUnion) → number_word text ≡ Ok n → is_solid text ≡ true → is_word text ≡ true
unfolding number_word range_word range_of number_of
number_text [] n e h = absurd cc
number_text (b ∷ text) n e h = word_from b text h

number_union_solid : (n : NumberUnion) → is_number n ≡ true → is_solid (number_spelling n) ≡ true
unfolding is_number number_spelling
number_union_solid (NumberUnion.One r) h = range_solid r h
number_union_solid (NumberUnion.Group g) h = group_solid g h

pub number_is : (n : NumberUnion) → is_number n ≡ true → is_word (number_spelling n) ≡ true
number_is n h = number_text (number_spelling n) n (number_again n h) (number_union_solid n h)

address_text : (text : Text) (n : AddrUnion) → address_word text ≡ Ok n → is_solid text ≡ true → is_word text ≡ true
unfolding address_word addr_range_word addr_range_of addr_of v4_of
address_text [] n e h = absurd cc
address_text (b ∷ text) n e h = word_from b text h

address_union_solid : (n : AddrUnion) → is_address n ≡ true → is_solid (address_spelling n) ≡ true
unfolding is_address address_spelling
address_union_solid (AddrUnion.One r) h = addr_range_solid r h
address_union_solid (AddrUnion.Group g) h = group_solid g h

pub address_is : (n : AddrUnion) → is_address n ≡ true → is_word (address_spelling n) ≡ true
address_is n h = address_text (address_spelling n) n (addresses.address_again n h) (address_union_solid n h)

-- ---- permissions are a word

on_solid : (bits mask : ℕ) (name text : Text) → is_solid name ≡ true → is_solid text ≡ true → is_solid (perm_on bits mask name text) ≡ true
unfolding perm_on
on_solid bits mask name text h k = by_tests (bit_and bits mask == 0) (length text == 0)
  where
    by_tests : (s t : Bool) → is_solid (cond s text (cond t name (text ++ 47 ∷ name))) ≡ true
    by_tests true t = k
    by_tests false true = h
    by_tests false false = solid_append text (47 ∷ name) k h

from_solid : (list : List Text) (bits mask : ℕ) (text : Text) → list_all is_solid list ≡ true → is_solid text ≡ true → is_solid (perms_from bits mask list text) ≡ true
from_solid [] bits mask text h k = k
from_solid (name ∷ more) bits mask text h k =
    let t = both (is_solid name) (list_all is_solid more) h in
    from_solid more bits (mask * 2) (perm_on bits mask name text) t.1 (on_solid bits mask name text t.0 k)

names_solid : (acl_row : Row) → list_all is_solid (names acl_row) ≡ true
names_solid Row.Path = refl
names_solid Row.PathNumber = refl
names_solid Row.Device = refl
names_solid Row.Pair = refl
names_solid Row.Listening = refl
names_solid Row.Sending = refl

no_piece : (acl_row : Row) (bits : ℕ) → ¬ (bits_of 0 acl_row (pieces_of []) ≡ Some bits)
no_piece Row.Path bits e = cc
no_piece Row.PathNumber bits e = cc
no_piece Row.Device bits e = cc
no_piece Row.Pair bits e = cc
no_piece Row.Listening bits e = cc
no_piece Row.Sending bits e = cc

perms_text : (acl_row : Row) (bits : ℕ) (text : Text) → bits_of 0 acl_row (pieces_of text) ≡ Some bits → is_solid text ≡ true → is_word text ≡ true
perms_text acl_row bits [] e h = absurd (no_piece acl_row bits e)
perms_text acl_row bits (b ∷ text) e h = word_from b text h

pub perms_is : (acl_row : Row) (bits : ℕ) → is_set acl_row bits ≡ true → is_word (perms_spelling acl_row bits) ≡ true
perms_is acl_row bits h = perms_text acl_row bits (perms_spelling acl_row bits) (bits_again acl_row bits h) (from_solid (names acl_row) bits 1 [] (names_solid acl_row) refl)

-- ---- the parts of a domain name are words

pattern_text : (text : Text) (r : Result Pattern PatternFault) → pattern_of text ≡ r → is_ok r ≡ true → is_solid text ≡ true
pattern_text text (Ok p) e h = subst (λ t. is_solid t ≡ true) (sym (pattern_found text p e)) (pattern_solid p (read-right text p e))
pattern_text text (Err fault) e h = absurd cc

slash_text : (text : Text) → begins_with_byte 47 text ≡ true → is_solid text ≡ true → is_word text ≡ true
slash_text [] h k = absurd cc
slash_text (b ∷ text) h k = word_from b text k

pub path_is : (text : Text) → is_path text ≡ true → is_word text ≡ true
unfolding is_path
path_is text h =
    let t = both (begins_with_byte 47 text) (is_ok (pattern_of text)) h in
    slash_text text t.0 (pattern_text text (pattern_of text) refl t.1)

paths_are : (paths : List Text) → list_all is_path paths ≡ true → list_all is_word paths ≡ true
paths_are [] h = refl
paths_are (path ∷ paths) h =
    let t = both (is_path path) (list_all is_path paths) h in
    all (is_word path) (list_all is_word paths) (path_is path t.0) (paths_are paths t.1)

inner_solid : (path kernel : Bool) (text : Text) → (path ≡ true → is_solid text ≡ true) → (kernel ≡ true → is_solid text ≡ true) → (path || kernel) ≡ true → is_solid text ≡ true
inner_solid true kernel text f g h = f refl
inner_solid false kernel text f g h = g h

namespace_is : (word : Text) → is_namespace_word is_path word ≡ true → is_word word ≡ true
namespace_is word h =
    let inner : Text = take (length word - 2) (drop 1 word) in
    let t = both (texts_equal word (root_name inner)) (is_path inner || texts_equal inner (codes "kernel")) h in
    let solid : is_solid inner ≡ true = inner_solid (is_path inner) (texts_equal inner (codes "kernel")) inner (λ e. (both (not (length inner == 0)) (is_solid inner) (path_is inner e)).1) (λ e. subst (λ x. is_solid x ≡ true) (sym (same_texts inner (codes "kernel") e)) refl) t.1 in
    subst (λ x. is_word x ≡ true) (sym (same_texts word (root_name inner) t.0)) (word_from 60 (inner ++ 62 ∷ []) (solid_append inner (62 ∷ []) solid refl))

list_is : (words : List Text) → right_list words ≡ true → list_all is_word words ≡ true
unfolding right_list
list_is [] h = refl
list_is (first ∷ paths) h =
    let t = both (is_namespace_word is_path first) (list_all is_path paths) h in
    all (is_word first) (list_all is_word paths) (namespace_is first t.0) (paths_are paths t.1)

pub parts_are : (name : DomainName) → is_domain_name is_path name ≡ true → list_all is_word (domain_parts name) ≡ true
unfolding is_domain_name right_list
parts_are name h = list_is (domain_parts name) (both (right_list (domain_parts name)) (nat_le (length name) 4085) h).0
