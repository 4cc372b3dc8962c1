-- How much a text can hold: each line that has a byte adds one at most.
use Rattle.std.proofs.Common.{◌≡◌, ℕ, ◌+◌, ◌≤◌, ◌^◌, ◌==◌, Bool, true, false, List, [], ◌∷◌, ◌++◌, length, Option, Some, None, Result, Ok, refl, sym, ap, subst, ◌∙◌, arith}
use Rattle.std.specs.Prelude.{codes}
use Rattle.std.specs.List.{slice_split, onto_first}
use Rattle.std.proofs.lemmas.List.{length-append}
use Rattle.std.proofs.lemmas.List.Splits.{slice_split-cons_no, slice_split-cons_yes}
use Rattle.tm_word.specs.Prelude.{Text, lines_of, texts_equal, words_of, ◌>>=◌}
use Rattle.tm_rules.specs.Types.{Editor, FileKind, ScriptKind, Turn}
use Rattle.tm_script.specs.Steps.{word_at, number_at}
use Rattle.tm_script.specs.Lines.{line_read, numbered, script_lines, script_of}
use Rattle.tm_script.specs.Edits.{exe_word, domain_rest, editor_of, file_of, line_text, with_line, no_edits, all_editors, edit_by, edits_line, edits_of}
use Rattle.tm_script.specs.Schedule.{turn_of, no_turns, schedule_line, schedule_of}
use Rattle.tm_script.specs.Written.{edit_count}
use Rattle.tm_script.specs.declared.edits.Edits.{Edits}
use Rattle.tm_script.specs.declared.schedule.Schedule.{Schedule}
use Rattle.tm_word.proofs.WordLaws.{no_words}
use Rattle.tm_script.proofs.ReadSteps.{OkIs, then_ok, then_any, if_ok, numbered_ok, map_ok}

-- the bytes of these lines
abbrev bytes_in : List Text → ℕ
bytes_in [] = 0
bytes_in (text ∷ texts) = length text + bytes_in texts

onto_bytes : (b : ℕ) (parts : List Text) → bytes_in (onto_first b parts) ≡ bytes_in parts + 1
onto_bytes b [] = refl
onto_bytes b (part ∷ parts) = omega arith

abbrev is_end : ℕ → Bool
is_end b = b == 10

one_more : (b : ℕ) (text : Text) (t : Bool) → is_end b ≡ t → bytes_in (slice_split is_end text) ≤ length text → bytes_in (slice_split is_end (b ∷ text)) ≤ length (b ∷ text)
one_more b text true e h = let cut = ap bytes_in (slice_split-cons_yes is_end b text e) in omega (arith, cut, h)
one_more b text false e h = let cut = ap bytes_in (slice_split-cons_no is_end b text e) ∙ onto_bytes b (slice_split is_end text) in omega (arith, cut, h)

-- the lines of a text have no more bytes than it
lines_bytes : (text : Text) → bytes_in (lines_of text) ≤ length text
lines_bytes [] = omega arith
lines_bytes (b ∷ text) = one_more b text (is_end b) refl (lines_bytes text)

-- a line of words adds one at most
abbrev AddsOne : {S : Type 0} → (S → ℕ) → (S → Text → List Text → Result S ScriptKind) → Type 0
AddsOne count line = (so_far : _) (key : Text) (words : List Text) → OkIs (λ next. count next ≤ count so_far + 1) (line so_far key words)

line_adds : {S : Type 0} (count : S → ℕ) (line : S → Text → List Text → Result S ScriptKind) → AddsOne count line → (so_far : S) (text : Text) → OkIs (λ next. count next ≤ count so_far + length text) (line_read line so_far (words_of text))
line_adds count line adds so_far [] = subst (λ (words : List Text). OkIs (λ next. count next ≤ count so_far + 0) (line_read line so_far words)) (sym (no_words [] refl)) (omega arith)
line_adds count line adds so_far (b ∷ text) = by_words (words_of (b ∷ text))
  where
    by_words : (words : List Text) → OkIs (λ next. count next ≤ count so_far + length (b ∷ text)) (line_read line so_far words)
    by_words [] = omega arith
    by_words (key ∷ words) = map_ok (λ next. count next ≤ count so_far + 1) (λ next. count next ≤ count so_far + length (b ∷ text)) (line so_far key words) (λ next h. omega (arith, h)) (adds so_far key words)

lines_add : {S : Type 0} (count : S → ℕ) (line : S → Text → List Text → Result S ScriptKind) → AddsOne count line → (texts : List Text) (number : ℕ) (so_far : S) → OkIs (λ next. count next ≤ count so_far + bytes_in texts) (script_lines line number texts so_far)
unfolding script_lines
lines_add count line adds [] number so_far = omega arith
lines_add count line adds (text ∷ texts) number so_far =
    then_ok (λ next. count next ≤ count so_far + length text) (λ last. count last ≤ count so_far + (length text + bytes_in texts)) (numbered number (line_read line so_far (words_of text))) (λ next. script_lines line (number + 1) texts next)
    (numbered_ok (λ next. count next ≤ count so_far + length text) number (line_read line so_far (words_of text)) (line_adds count line adds so_far text))
    (λ next h. map_ok (λ last. count last ≤ count next + bytes_in texts) (λ last. count last ≤ count so_far + (length text + bytes_in texts)) (script_lines line (number + 1) texts next) (λ last k. omega (arith, h, k)) (lines_add count line adds texts (number + 1) next))

script_adds : {S : Type 0} (count : S → ℕ) (line : S → Text → List Text → Result S ScriptKind) → AddsOne count line → (start : S) → count start ≡ 0 → (text : Text) → OkIs (λ last. count last ≤ length text) (script_of line start text)
script_adds count line adds start none text =
    map_ok (λ last. count last ≤ count start + bytes_in (lines_of text)) (λ last. count last ≤ length text) (script_lines line 1 (lines_of text) start) (λ last h. let few = lines_bytes text in omega (arith, none, h, few)) (lines_add count line adds (lines_of text) 1 start)

-- ---- turns

abbrev turn_count : Schedule → ℕ
turn_count schedule = length schedule.turns

turns_add : AddsOne turn_count schedule_line
unfolding schedule_line
turns_add schedule key words =
    then_any (λ (next : Schedule). turn_count next ≤ turn_count schedule + 1) (turn_of schedule.trees schedule.editors key words) _ (λ turn. let more = length-append schedule.turns (turn ∷ []) in omega (arith, more))

pub turns_few : (trees editors : ℕ) (text : Text) (turns : List Turn) → schedule_of trees editors text ≡ Ok turns → length turns ≤ length text
unfolding schedule_of
turns_few trees editors text turns e =
    subst (OkIs (λ (ts : List Turn). length ts ≤ length text)) e
    (then_ok (λ (schedule : Schedule). turn_count schedule ≤ length text) (λ (ts : List Turn). length ts ≤ length text) (script_of schedule_line (no_turns trees editors) text) (λ schedule. Ok schedule.turns)
    (script_adds turn_count schedule_line turns_add (no_turns trees editors) refl text)
    (λ schedule h. h))

-- ---- editors and edits

abbrev total : List Editor → ℕ
total editors = length editors + edit_count editors

total_more : (xs : List Editor) (x : Editor) → total (xs ++ x ∷ []) ≡ total xs + (1 + length x.lines)
total_more [] x = omega arith
total_more (first ∷ xs) x = let more = total_more xs x in omega (arith, more)

abbrev edits_total : Edits → ℕ
edits_total edits = total (all_editors edits)

edit_adds : (edits : Edits) (last : Option Editor) (file : FileKind) (words : List Text) → edits.last ≡ last → OkIs (λ (next : Edits). edits_total next ≤ edits_total edits + 1) (edit_by edits last file words)
edit_adds edits None file words e = tt
edit_adds edits (Some editor) file words e =
    then_any (λ (next : Edits). edits_total next ≤ edits_total edits + 1) (line_text words) _ (λ text.
    let before : edits_total edits ≡ total (edits.before ++ editor ∷ []) = rw e refl in
    let old = total_more edits.before editor in
    let new = total_more edits.before (with_line editor file text) in
    let more = length-append editor.lines ((file, text) ∷ []) in
    omega (arith, before, old, new, more))

no_lines : (words : List Text) → OkIs (λ (editor : Editor). length editor.lines ≡ 0) (editor_of words)
unfolding editor_of
no_lines words =
    let IsNew : Editor → Type 0 = λ editor. length editor.lines ≡ 0 in
    then_any IsNew (number_at (2 ^ 32) words) _ (λ uid.
    then_any IsNew (number_at (2 ^ 32) uid.1) _ (λ euid.
    then_any IsNew (word_at exe_word euid.1) _ (λ exe.
    then_any IsNew (domain_rest exe.1) _ (λ domain. refl))))

edits_add : AddsOne edits_total edits_line
unfolding edits_line
edits_add edits key words =
    let AddsHere : Edits → Type 0 = λ next. edits_total next ≤ edits_total edits + 1 in
    if_ok AddsHere (texts_equal key (codes "editor")) (editor_of words >>= (λ editor. Ok (record { before = all_editors edits; last = Some editor }))) (file_of key >>= (λ file. edit_by edits edits.last file words))
    (then_ok (λ (editor : Editor). length editor.lines ≡ 0) AddsHere (editor_of words) _ (no_lines words) (λ editor h. let more = total_more (all_editors edits) editor in omega (arith, more, h)))
    (then_any AddsHere (file_of key) _ (λ file. edit_adds edits edits.last file words refl))

pub edits_few : (text : Text) (editors : List Editor) → edits_of text ≡ Ok editors → length editors + edit_count editors ≤ length text
unfolding edits_of
edits_few text editors e =
    subst (OkIs (λ (es : List Editor). total es ≤ length text)) e
    (then_ok (λ (edits : Edits). edits_total edits ≤ length text) (λ (es : List Editor). total es ≤ length text) (script_of edits_line no_edits text) (λ edits. Ok (all_editors edits))
    (script_adds edits_total edits_line edits_add no_edits refl text)
    (λ edits h. h))
