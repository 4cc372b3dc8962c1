-- What is read as records is their text, and the text of records is read as them.
use Rattle.std.proofs.Common.{◌≡◌, ℕ, ◌+◌, ◌==◌, Bool, true, false, ◌&&◌, not, List, [], ◌∷◌, ◌++◌, Result, Ok, Err, refl, sym, ap, subst, ◌∙◌}
use Rattle.std.specs.Prelude.{◌↔◌}
use Rattle.std.specs.List.{list_all, join_with_byte, onto_first}
use Rattle.std.proofs.lemmas.List.{append_assoc, append-nil}
use Rattle.std.proofs.lemmas.Grind.{flat_map-append}
use Rattle.std.proofs.lemmas.List.Folds.{list_all-append}
use Rattle.std.proofs.lemmas.List.Splits.{slice_split-cons_no, slice_split-cons_yes, join_with_byte-slice_split}
use Rattle.tm_word.specs.Prelude.{Text, is_empty, lines_of}
use Rattle.tm_sort.specs.declared.record.Record.{Record}
use Rattle.tm_sort.specs.declared.record.Begun.{Begun}
use Rattle.tm_sort.specs.Records.{record_text, records_text, record_of, read_so, full_line, line_after, last_line, records_from, records_of, is_full, is_record}
use Rattle.tm_sort.proofs.RecordSteps.{lines_there}

both : (a b : Bool) → (a && b) ≡ true → (a ≡ true) × (b ≡ true)
both true b e = (refl, e)
both false b e = absurd cc

all : (a b : Bool) → a ≡ true → b ≡ true → (a && b) ≡ true
all a b h k = rw (h, k) refl

abbrev done : List Record → Result (List Record) ℕ
done items = Ok items

done_is : (xs ys : List Record) → done xs ≡ done ys → xs ≡ ys
done_is xs ys e = cc

no_fault : (xs : List Record) (number : ℕ) → Err number ≡ done xs → ⊥
no_fault xs number e = absurd cc

-- ---- what is read is the text of its records

-- the lines of the record that isn't ended
abbrev begun_text : Begun → Text
begun_text Begun.Nothing = []
begun_text (Begun.Header header) = header ++ 10 ∷ []
begun_text (Begun.Domain header domain) = header ++ 10 ∷ [] ++ domain ++ 10 ∷ []
begun_text (Begun.Line header domain line) = header ++ 10 ∷ [] ++ domain ++ 10 ∷ [] ++ line ++ 10 ∷ []

one_more : (items : List Record) (item : Record) → records_text (items ++ item ∷ []) ≡ records_text items ++ record_text item
one_more items item = flat_map-append record_text items (item ∷ []) ∙ ap (λ t. records_text items ++ t) (append-nil (record_text item))

next_line : (records begun line rest whole : Text) → records ++ (begun ++ line ++ 10 ∷ [] ++ rest) ≡ whole → records ++ (begun ++ (line ++ 10 ∷ rest)) ≡ whole
next_line records begun line rest whole e = ap (λ t. records ++ t) (regroup begun line rest) ∙ e
  where
    regroup : (b l r : Text) → b ++ (l ++ 10 ∷ r) ≡ b ++ l ++ 10 ∷ [] ++ r
    regroup b l r = simp append_assoc refl

ended_record : (records : List Record) (header domain line rest whole : Text) → records_text (records ++ record_of header domain line ∷ []) ++ ([] ++ rest) ≡ whole
    → records_text records ++ (header ++ 10 ∷ [] ++ domain ++ 10 ∷ [] ++ line ++ 10 ∷ [] ++ ([] ++ 10 ∷ rest)) ≡ whole
ended_record records header domain line rest whole e =
    regroup (records_text records) header domain line rest ∙ ap (λ t. t ++ rest) (sym (one_more records (record_of header domain line))) ∙ e
  where
    regroup : (r h d l rest : Text) → r ++ (h ++ 10 ∷ [] ++ d ++ 10 ∷ [] ++ l ++ 10 ∷ [] ++ ([] ++ 10 ∷ rest)) ≡ (r ++ (h ++ 10 ∷ [] ++ d ++ 10 ∷ [] ++ l ++ 10 ∷ 10 ∷ [])) ++ rest
    regroup r h d l rest = simp append_assoc refl

abbrev TextIs : List Record → Begun → List Text → List Record → Type 0
TextIs records begun lines items = records_text records ++ (begun_text begun ++ join_with_byte 10 lines) ≡ records_text items

text_is : (lines : List Text) (number : ℕ) (records : List Record) (begun : Begun) (items : List Record) → records_from number lines (read_so records begun) ≡ Ok items → TextIs records begun lines items
unfolding records_from line_after last_line
text_is [] number records begun items e = absurd (no_fault items number e)
text_is ([] ∷ []) number records Begun.Nothing items e = append-nil (records_text records) ∙ ap records_text (done_is records items e)
text_is ([] ∷ []) number records (Begun.Header header) items e = absurd (no_fault items number e)
text_is ([] ∷ []) number records (Begun.Domain header domain) items e = absurd (no_fault items number e)
text_is ([] ∷ []) number records (Begun.Line header domain line) items e = absurd (no_fault items number e)
text_is ((b ∷ last) ∷ []) number records begun items e = absurd (no_fault items number e)
text_is ([] ∷ next ∷ lines) number records Begun.Nothing items e = absurd (no_fault items number e)
text_is ([] ∷ next ∷ lines) number records (Begun.Header header) items e = absurd (no_fault items number e)
text_is ([] ∷ next ∷ lines) number records (Begun.Domain header domain) items e = absurd (no_fault items number e)
text_is ([] ∷ next ∷ lines) number records (Begun.Line header domain line) items e =
    ended_record records header domain line (join_with_byte 10 (next ∷ lines)) (records_text items) (text_is (next ∷ lines) (number + 1) (records ++ record_of header domain line ∷ []) Begun.Nothing items e)
text_is ((b ∷ line) ∷ next ∷ lines) number records Begun.Nothing items e =
    next_line (records_text records) [] (b ∷ line) (join_with_byte 10 (next ∷ lines)) (records_text items) (text_is (next ∷ lines) (number + 1) records (Begun.Header (b ∷ line)) items e)
text_is ((b ∷ line) ∷ next ∷ lines) number records (Begun.Header header) items e =
    next_line (records_text records) (header ++ 10 ∷ []) (b ∷ line) (join_with_byte 10 (next ∷ lines)) (records_text items) (text_is (next ∷ lines) (number + 1) records (Begun.Domain header (b ∷ line)) items e)
text_is ((b ∷ line) ∷ next ∷ lines) number records (Begun.Domain header domain) items e =
    next_line (records_text records) (header ++ 10 ∷ [] ++ domain ++ 10 ∷ []) (b ∷ line) (join_with_byte 10 (next ∷ lines)) (records_text items)
    (text_is (next ∷ lines) (number + 1) records (Begun.Line header domain (b ∷ line)) items e)
text_is ((b ∷ line) ∷ next ∷ lines) number records (Begun.Line header domain request) items e = absurd (no_fault items number e)

-- ---- what is read are records

abbrev is_whole : Text → Bool
is_whole line = list_all (λ b. not (b == 10)) line

abbrev is_begun : Begun → Bool
is_begun Begun.Nothing = true
is_begun (Begun.Header header) = is_full header
is_begun (Begun.Domain header domain) = is_full header && is_full domain
is_begun (Begun.Line header domain line) = is_full header && (is_full domain && is_full line)

abbrev AreRecords : List Record → Type 0
AreRecords items = list_all is_record items ≡ true

more_are : (items : List Record) (item : Record) → AreRecords items → is_record item ≡ true → AreRecords (items ++ item ∷ [])
more_are items item h k = list_all-append is_record items (item ∷ []) ∙ all (list_all is_record items) (list_all is_record (item ∷ [])) h (all (is_record item) true k refl)

are_records : (lines : List Text) (number : ℕ) (records : List Record) (begun : Begun) (items : List Record) → list_all is_whole lines ≡ true → AreRecords records → is_begun begun ≡ true
    → records_from number lines (read_so records begun) ≡ Ok items → AreRecords items
unfolding records_from line_after last_line is_record
are_records [] number records begun items w h k e = absurd (no_fault items number e)
are_records ([] ∷ []) number records Begun.Nothing items w h k e = subst AreRecords (done_is records items e) h
are_records ([] ∷ []) number records (Begun.Header header) items w h k e = absurd (no_fault items number e)
are_records ([] ∷ []) number records (Begun.Domain header domain) items w h k e = absurd (no_fault items number e)
are_records ([] ∷ []) number records (Begun.Line header domain line) items w h k e = absurd (no_fault items number e)
are_records ((b ∷ last) ∷ []) number records begun items w h k e = absurd (no_fault items number e)
are_records ([] ∷ next ∷ lines) number records Begun.Nothing items w h k e = absurd (no_fault items number e)
are_records ([] ∷ next ∷ lines) number records (Begun.Header header) items w h k e = absurd (no_fault items number e)
are_records ([] ∷ next ∷ lines) number records (Begun.Domain header domain) items w h k e = absurd (no_fault items number e)
are_records ([] ∷ next ∷ lines) number records (Begun.Line header domain line) items w h k e =
    are_records (next ∷ lines) (number + 1) (records ++ record_of header domain line ∷ []) Begun.Nothing items w (more_are records (record_of header domain line) h k) refl e
are_records ((b ∷ line) ∷ next ∷ lines) number records Begun.Nothing items w h k e =
    let t = both (is_whole (b ∷ line)) (list_all is_whole (next ∷ lines)) w in
    are_records (next ∷ lines) (number + 1) records (Begun.Header (b ∷ line)) items t.1 h t.0 e
are_records ((b ∷ line) ∷ next ∷ lines) number records (Begun.Header header) items w h k e =
    let t = both (is_whole (b ∷ line)) (list_all is_whole (next ∷ lines)) w in
    are_records (next ∷ lines) (number + 1) records (Begun.Domain header (b ∷ line)) items t.1 h (all (is_full header) (is_full (b ∷ line)) k t.0) e
are_records ((b ∷ line) ∷ next ∷ lines) number records (Begun.Domain header domain) items w h k e =
    let t = both (is_whole (b ∷ line)) (list_all is_whole (next ∷ lines)) w in
    let p = both (is_full header) (is_full domain) k in
    are_records (next ∷ lines) (number + 1) records (Begun.Line header domain (b ∷ line)) items t.1 h (all (is_full header) _ p.0 (all (is_full domain) (is_full (b ∷ line)) p.1 t.0)) e
are_records ((b ∷ line) ∷ next ∷ lines) number records (Begun.Line header domain request) items w h k e = absurd (no_fault items number e)

-- no byte 10 stands within the lines of a text
abbrev is_end : ℕ → Bool
is_end b = b == 10

onto_whole : (b : ℕ) (parts : List Text) → is_end b ≡ false → list_all is_whole parts ≡ true → list_all is_whole (onto_first b parts) ≡ true
onto_whole b [] h k = rw h refl
onto_whole b (part ∷ parts) h k = rw h k

lines_whole : (text : Text) → list_all is_whole (lines_of text) ≡ true
lines_whole [] = refl
lines_whole (b ∷ text) = by_byte (is_end b) refl (lines_whole text)
  where
    by_byte : (t : Bool) → is_end b ≡ t → list_all is_whole (lines_of text) ≡ true → list_all is_whole (lines_of (b ∷ text)) ≡ true
    by_byte true e h = ap (list_all is_whole) (slice_split-cons_yes is_end b text e) ∙ h
    by_byte false e h = ap (list_all is_whole) (slice_split-cons_no is_end b text e) ∙ onto_whole b (lines_of text) e h

-- ---- the text of records is read as them

cut_line : (line text : Text) → is_whole line ≡ true → lines_of (line ++ 10 ∷ text) ≡ line ∷ lines_of text
cut_line [] text h = slice_split-cons_yes is_end 10 text refl
cut_line (b ∷ line) text h =
    let t = both (not (is_end b)) (is_whole line) h in
    slice_split-cons_no is_end b (line ++ 10 ∷ text) (not_true (is_end b) t.0) ∙ ap (onto_first b) (cut_line line text t.1)
  where
    not_true : (t : Bool) → not t ≡ true → t ≡ false
    not_true true e = absurd cc
    not_true false e = refl

full_read : (number : ℕ) (line : Text) → is_full line ≡ true → full_line number line ≡ Ok line
full_read number [] h = absurd cc
full_read number (b ∷ line) h = refl

record_lines : (item : Record) (text : Text) → is_record item ≡ true → lines_of (record_text item ++ text) ≡ item.header ∷ item.domain ∷ item.line ∷ [] ∷ lines_of text
unfolding is_record
record_lines item text h =
    let t = both (is_full item.header) (is_full item.domain && is_full item.line) h in
    let u = both (is_full item.domain) (is_full item.line) t.1 in
    let whole : (line : Text) → is_full line ≡ true → is_whole line ≡ true = λ line k. (both (not (is_empty line)) (is_whole line) k).1 in
    ap lines_of (regroup item.header item.domain item.line text)
    ∙ cut_line item.header _ (whole item.header t.0)
    ∙ ap (λ ls. item.header ∷ ls) (cut_line item.domain _ (whole item.domain u.0))
    ∙ ap (λ ls. item.header ∷ item.domain ∷ ls) (cut_line item.line _ (whole item.line u.1))
    ∙ ap (λ ls. item.header ∷ item.domain ∷ item.line ∷ ls) (cut_line [] text refl)
  where
    regroup : (h d l t : Text) → (h ++ 10 ∷ [] ++ d ++ 10 ∷ [] ++ l ++ 10 ∷ 10 ∷ []) ++ t ≡ h ++ 10 ∷ (d ++ 10 ∷ (l ++ 10 ∷ ([] ++ 10 ∷ t)))
    regroup h d l t = simp append_assoc refl

read_again : (items : List Record) (number : ℕ) (before : List Record) → AreRecords items → records_from number (lines_of (records_text items)) (read_so before Begun.Nothing) ≡ Ok (before ++ items)
unfolding records_from line_after last_line is_record
read_again [] number before h = ap Ok (sym (append-nil before))
read_again (item ∷ items) number before h =
    let t = both (is_record item) (list_all is_record items) h in
    let u = both (is_full item.header) (is_full item.domain && is_full item.line) t.0 in
    let v = both (is_full item.domain) (is_full item.line) u.1 in
    ap (λ ls. records_from number ls (read_so before Begun.Nothing)) (record_lines item (records_text items) t.0)
    ∙ (rw (full_read number item.header u.0, full_read (number + 1) item.domain v.0, full_read (number + 1 + 1) item.line v.1, lines_there (records_text items))
    (read_again items (number + 1 + 1 + 1 + 1) (before ++ item ∷ []) t.1 ∙ ap Ok (append_assoc before (item ∷ []) items)))

pub records_are_text : (text : Text) (items : List Record) → (records_of text ≡ Ok items) ↔ ((records_text items ≡ text) × (list_all is_record items ≡ true))
records_are_text text items = (there, back)
  where
    there : records_of text ≡ Ok items → (records_text items ≡ text) × (list_all is_record items ≡ true)
    there e = (sym (text_is (lines_of text) 1 [] Begun.Nothing items e) ∙ join_with_byte-slice_split 10 text, are_records (lines_of text) 1 [] Begun.Nothing items (lines_whole text) refl refl e)

    back : (records_text items ≡ text) × (list_all is_record items ≡ true) → records_of text ≡ Ok items
    back h = ap records_of (sym h.0) ∙ read_again items 1 [] h.1
