-- What the index of a list tells after a change of the list.
use Rattle.std.proofs.Common.{◌≡◌, ℕ, ◌+◌, ◌<◌, ◌==◌, Bool, true, false, not, if◌then◌else◌, List, [], ◌∷◌, ◌++◌, length, get_or, slice_set, refl, sym, ap, ◌∙◌, arith, append-nil}
use mathlib.Core.Path.{fun_ext}
use Rattle.std.proofs.lemmas.Bool.{and_parts}
use Rattle.std.proofs.lemmas.List.{get_or_default}
use Rattle.std.specs.Prelude.{Option, Some, None, is_some, IfSome, bit_and}
use Rattle.std.specs.List.{position_from, find, list_any, remove}
use Rattle.std.specs.Option.{option_or, option_map_or}
use Rattle.tm_word.specs.Prelude.{Text, Word, texts_equal}
use Rattle.tm_rules.specs.Types.{Args, Cond, Entry}
use Rattle.tm_rules.specs.Prelude.{adding, deleting, has_line, same_line, without_permissions}
use Rattle.tm_rules.proofs.EqualityLaws.{lines_are_same, same_texts}
use Rattle.tm_change_entries.proofs.Edits.{place_within, joined_entry, left_entry, adding_last, adding_at, deleting_none, deleting_out, deleting_at}
use Rattle.tm_index.specs.declared.label.Label.{Label}
use Rattle.tm_index.specs.Stems.{stem_of}
use Rattle.tm_index.specs.Names.{literal_of}
use Rattle.tm_index.specs.Labels.{line_key, label_of}
use Rattle.tm_index.specs.Buckets.{Places, placing, front}
use Rattle.tm_index.specs.Listing.{Listed, with_name, with_other, noting_name, noting_stem, noting_line, noting, closed, places_from, listing, has_name, has_no_name, has_stem, has_neither, has_key, holds_at, has_all}
use Rattle.tm_index.proofs.BucketLaws.{noted_taken}
use Rattle.tm_index.proofs.PlaceLaws.{place_if, places_more, places_set, places_closed, position_at_places, any_at_places}

pub listed_equal : (x y : Listed) → x.named ≡ y.named → x.others ≡ y.others → x.stemmed ≡ y.stemmed → x.rest ≡ y.rest → x.lines ≡ y.lines → x ≡ y
listed_equal x y a b c d e = λ i. record { named = a i; others = b i; stemmed = c i; rest = d i; lines = e i }

-- the last place of a name is taken out again
pub name_taken : (name : Word) (place : ℕ) (after : Places) (old before : Listed) → old ≡ noting_name (Some name) place before → after ≡ placing name (front (old.named name)) old.named → (record old { named = after }) ≡ before
name_taken name place after old before e h =
    listed_equal (record old { named = after }) before (noted_taken name place before.named old.named after (ap (λ (x : Listed). x.named) e) h) (ap (λ (x : Listed). x.others) e) (ap (λ (x : Listed). x.stemmed) e)
    (ap (λ (x : Listed). x.rest) e) (ap (λ (x : Listed). x.lines) e)

-- the last place of a stem is
pub stem_taken : (name : Option Word) (stem : Text) (place : ℕ) (after : Places) (old before : Listed) → old ≡ noting_stem name (Some stem) place before → after ≡ placing stem (front (old.stemmed stem)) old.stemmed → (record old { stemmed = after }) ≡ before
stem_taken name stem place after old before e h =
    listed_equal (record old { stemmed = after }) before (ap (λ (x : Listed). x.named) e) (ap (λ (x : Listed). x.others) e)
    (noted_taken stem place before.stemmed old.stemmed after (ap (λ (x : Listed). x.stemmed) e) h) (ap (λ (x : Listed). x.rest) e) (ap (λ (x : Listed). x.lines) e)

-- the last place of a line's words is
pub line_taken : (key : Text) (place : ℕ) (after : Places) (old before : Listed) → old ≡ noting_line key place before → after ≡ placing key (front (old.lines key)) old.lines → (record old { lines = after }) ≡ before
line_taken key place after old before e h =
    listed_equal (record old { lines = after }) before (ap (λ (x : Listed). x.named) e) (ap (λ (x : Listed). x.others) e) (ap (λ (x : Listed). x.stemmed) e) (ap (λ (x : Listed). x.rest) e)
    (noted_taken key place before.lines old.lines after (ap (λ (x : Listed). x.lines) e) h)

-- An entry more, last

if-more : (b : Bool) (n : ℕ) (list : List ℕ) → list ++ place_if b n ≡ (if b then list ++ n ∷ [] else list)
if-more true n list = refl
if-more false n list = append-nil list

-- the places of a name, where the entry has it
named-more : (label : Option Word) (n : ℕ) (places : Places) (name : Word) → places name ++ place_if (option_map_or (texts_equal name) label false) n ≡ with_name label n places name
named-more None n places name = append-nil (places name)
named-more (Some word) n places name = if-more (texts_equal name word) n (places name) ∙ go (texts_equal name word) refl
  where
    go : (b : Bool) → texts_equal name word ≡ b → (if b then places name ++ n ∷ [] else places name) ≡ (if b then places word ++ n ∷ [] else places name)
    go true h = ap (λ w. places w ++ n ∷ []) (same_texts.sound name word h)
    go false h = refl

others-more : (label : Option Word) (n : ℕ) (places : List ℕ) → places ++ place_if (not (is_some label)) n ≡ with_other label n places
others-more None n places = refl
others-more (Some word) n places = append-nil places

-- an entry that goes last is noted at the length of the list
pub listing_more : (entry : Entry) (entries : List Entry) → noting (label_of entry) (length entries) (listing entries) ≡ listing (entries ++ entry ∷ [])
unfolding noting listing label_of
listing_more entry entries =
    let zero_plus : 0 + length entries ≡ length entries = omega arith in
    let name = literal_of entry.args in
    let stem = stem_of entry.args in
    let key = line_key entry in
    listed_equal (noting (label_of entry) (length entries) (listing entries)) (listing (entries ++ entry ∷ []))
    (fun_ext (λ word.
    sym (named-more name (length entries) (λ w. places_from (has_name w) 0 entries) word)
    ∙ ap (λ n. places_from (has_name word) 0 entries ++ place_if (has_name word entry) n) (sym zero_plus)
    ∙ sym (places_more (has_name word) 0 entries entry)))
    (sym (others-more name (length entries) (places_from has_no_name 0 entries)) ∙ ap (λ n. places_from has_no_name 0 entries ++ place_if (has_no_name entry) n) (sym zero_plus) ∙ sym (places_more has_no_name 0 entries entry))
    (fun_ext (λ text.
    sym (named-more stem (length entries) (λ w. places_from (has_stem w) 0 entries) text)
    ∙ ap (λ n. places_from (has_stem text) 0 entries ++ place_if (has_stem text entry) n) (sym zero_plus)
    ∙ sym (places_more (has_stem text) 0 entries entry)))
    (sym (others-more (option_or stem name) (length entries) (places_from has_neither 0 entries)) ∙ ap (λ n. places_from has_neither 0 entries ++ place_if (has_neither entry) n) (sym zero_plus) ∙ sym (places_more has_neither 0 entries entry))
    (fun_ext (λ text.
    sym (named-more (Some key) (length entries) (λ w. places_from (has_key w) 0 entries) text)
    ∙ ap (λ n. places_from (has_key text) 0 entries ++ place_if (has_key text entry) n) (sym zero_plus)
    ∙ sym (places_more (has_key text) 0 entries entry)))

-- An entry that goes away, and one with other permissions

-- the index without the entry at a place
pub listing_closed : (k : ℕ) (entries : List Entry) → k < length entries → closed k (listing entries) ≡ listing (remove entries k)
unfolding closed listing
listing_closed k entries less =
    listed_equal (closed k (listing entries)) (listing (remove entries k)) (fun_ext (λ word. places_closed (has_name word) k entries less)) (places_closed has_no_name k entries less)
    (fun_ext (λ text. places_closed (has_stem text) k entries less)) (places_closed has_neither k entries less)
    (fun_ext (λ text. places_closed (has_key text) k entries less))

-- other permissions change no place
pub listing_set : (entries : List Entry) (k bits : ℕ) (e : Entry) → e ≡ get_or entries k e → listing (slice_set entries k (left_entry e bits)) ≡ listing entries
unfolding listing literal_of stem_of line_key
listing_set entries k bits e is =
    listed_equal (listing (slice_set entries k (left_entry e bits))) (listing entries)
    (fun_ext (λ word. places_set (has_name word) 0 entries k (left_entry e bits) e (ap (has_name word) is)))
    (places_set has_no_name 0 entries k (left_entry e bits) e (ap has_no_name is))
    (fun_ext (λ text. places_set (has_stem text) 0 entries k (left_entry e bits) e (ap (has_stem text) is)))
    (places_set has_neither 0 entries k (left_entry e bits) e (ap has_neither is))
    (fun_ext (λ text. places_set (has_key text) 0 entries k (left_entry e bits) e (ap (has_key text) is)))

-- Where a line stands

-- entries that share a line have the same words
shared-key : (line entry : Entry) → same_line entry line ≡ true → has_key (line_key line) entry ≡ true
unfolding line_key
shared-key line entry h =
    let parts = (lines_are_same entry line).0 h in
    let own : line_key entry ≡ line_key line = ap (λ (args : Args). line_key (record entry { args = args })) parts.0 ∙ ap (λ (cond : Cond). line_key (record line { cond = cond })) parts.1 in
    ap (texts_equal (line_key line)) own ∙ same_texts.full (line_key line)

-- the places of a line's words
pub line_places : (index : Listed) (entries : List Entry) (label : Label) (line : Entry) → index ≡ listing entries → label ≡ label_of line → index.lines label.key ≡ places_from (has_key (line_key line)) 0 entries
unfolding listing label_of
line_places index entries label line e h = ap (λ (x : Listed). x.lines label.key) e ∙ ap (λ (l : Label). places_from (has_key l.key) 0 entries) h

-- the first place among them at which an entry shares the line is where the first one stands that
-- does
pub line_found : (index : Listed) (entries : List Entry) (label : Label) (line : Entry) (places : List ℕ) → index ≡ listing entries → label ≡ label_of line → places ≡ index.lines label.key
    → find (holds_at (λ (entry : Entry). same_line entry line) entries) places ≡ position_from (λ (entry : Entry). same_line entry line) 0 entries
line_found index entries label line places e h is =
    ap (find (holds_at (λ (entry : Entry). same_line entry line) entries)) (is ∙ line_places index entries label line e h)
    ∙ position_at_places (λ (entry : Entry). same_line entry line) (has_key (line_key line)) entries (shared-key line)

all-shares : (line entry : Entry) → has_all line entry ≡ true → same_line entry line ≡ true
all-shares line entry h = (and_parts (same_line entry line) (bit_and entry.perms.bits line.perms.bits == line.perms.bits) h).0

-- whether one of them has the whole line
pub line_there : (index : Listed) (entries : List Entry) (label : Label) (line : Entry) (places : List ℕ) → index ≡ listing entries → label ≡ label_of line → places ≡ index.lines label.key
    → list_any (holds_at (has_all line) entries) places ≡ has_line line entries
unfolding has_line
line_there index entries label line places e h is =
    ap (list_any (holds_at (has_all line) entries)) (is ∙ line_places index entries label line e h)
    ∙ any_at_places (has_all line) (has_key (line_key line)) entries (λ entry g. shared-key line entry (all-shares line entry g))

-- it stands in the list
pub found_within : (line : Entry) (entries : List Entry) (r : Option ℕ) → r ≡ position_from (λ (entry : Entry). same_line entry line) 0 entries → IfSome r (λ place. place < length entries)
found_within line entries None e = tt
found_within line entries (Some k) e = place_within line entries k (sym e)

-- A line that is added or taken out

-- where no entry shares the line it is noted
pub listing_added : (line : Entry) (entries : List Entry) → position_from (λ (entry : Entry). same_line entry line) 0 entries ≡ None → noting (label_of line) (length entries) (listing entries) ≡ listing (adding line entries)
listing_added line entries none = listing_more line entries ∙ ap listing (sym (adding_last line entries none))

-- where one does no place changes
pub listing_joined : (line : Entry) (entries : List Entry) (k : ℕ) → position_from (λ (entry : Entry). same_line entry line) 0 entries ≡ Some k → listing entries ≡ listing (adding line entries)
listing_joined line entries k found =
    let e : Entry = get_or entries k line in
    let is : e ≡ get_or entries k e = get_or_default entries k line e (place_within line entries k found) in
    sym (listing_set entries k (joined_entry line e).perms.bits e is) ∙ ap listing (adding_at line entries k e found is)

-- an entry that keeps nothing goes away
pub listing_out : (line : Entry) (entries : List Entry) (k : ℕ) (e : Entry) → position_from (λ (entry : Entry). same_line entry line) 0 entries ≡ Some k → e ≡ get_or entries k e → without_permissions e.perms.bits line.perms.bits ≡ 0
    → closed k (listing entries) ≡ listing (deleting line entries)
listing_out line entries k e found is empty = listing_closed k entries (place_within line entries k found) ∙ ap listing (deleting_out line entries k e found is empty)

-- one that keeps some stays where it is
pub listing_left : (line : Entry) (entries : List Entry) (k : ℕ) (e : Entry) → position_from (λ (entry : Entry). same_line entry line) 0 entries ≡ Some k → e ≡ get_or entries k e → (without_permissions e.perms.bits line.perms.bits ≡ 0 → ⊥)
    → listing entries ≡ listing (deleting line entries)
listing_left line entries k e found is some =
    sym (listing_set entries k (without_permissions e.perms.bits line.perms.bits) e is) ∙ ap listing (deleting_at line entries k e e found (place_within line entries k found) is is some)

-- where no entry shares the line none changes
pub listing_none : (line : Entry) (entries : List Entry) → position_from (λ (entry : Entry). same_line entry line) 0 entries ≡ None → listing entries ≡ listing (deleting line entries)
listing_none line entries none = ap listing (sym (deleting_none line entries none))
