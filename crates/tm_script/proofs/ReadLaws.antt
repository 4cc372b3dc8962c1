-- What every script that is read holds: each line keeps it.
use Rattle.std.proofs.Common.{◌≡◌, ℕ, zero, suc, ◌+◌, ◌<◌, ◌≤◌, ◌^◌, ◌==◌, nat_le, nat_lt, Bool, true, false, ◌&&◌, ◌||◌, not, List, [], ◌∷◌, ◌++◌, take, drop, Option, Some, None, Ok, Err, refl, sym, ap, subst, ◌∙◌, arith}
use Rattle.std.specs.Prelude.{codes, is_some, option_to_list, if◌then◌else◌}
use Rattle.std.specs.Option.{option_map_or}
use Rattle.std.specs.List.{list_all}
use Rattle.std.proofs.lemmas.Bool.{lt-ltb, ltb-false, le-leb}
use Rattle.tm_word.specs.Prelude.{Pattern, Text, Word, are_bytes, begins_with_byte, is_empty, is_word, joined, lines_of, spell, spelled_word, texts_equal, words_of, ◌>>=◌}
use Rattle.tm_pattern.specs.Grammar.{is_right}
use Rattle.tm_pattern.specs.Reading.{pattern_of}
use Rattle.tm_word.proofs.Spelled.{word_found, word_small}
use Rattle.tm_word.proofs.TextLaws.{texts_full}
use Rattle.tm_pattern.proofs.RightLaws.{read-right}
use Rattle.tm_rules.specs.Types.{Answer, Book, BookRule, Editor, FileKind, ListWords, ScriptKind, Turn}
use Rattle.tm_rules.specs.Prelude.{DomainName, code_of, is_domain_name, is_path_word}
use Rattle.tm_line.specs.Names.{is_path}
use Rattle.tm_line.specs.Domains.{domain_words}
use Rattle.tm_line.specs.Lines.{is_last}
use Rattle.tm_line.proofs.Steps.{both, all}
use Rattle.tm_line.proofs.DomainLaws.{words_right}
use Rattle.tm_line.proofs.WholeLaws.{words_again}
use Rattle.tm_script.specs.Steps.{kinded, or_kind, word_at, number_at, ended}
use Rattle.tm_script.specs.Lines.{line_read, numbered, script_lines, script_of}
use Rattle.tm_script.specs.Edits.{exe_word, domain_rest, new_editor, editor_of, file_of, line_text, with_line, no_edits, all_editors, edit_by, edits_line, edits_of}
use Rattle.tm_script.specs.Answers.{last_answer, retries_at, answer_at, is_colon, colon_at, list_word, listed, list_after, list_of, colon_place, list_at, no_rules, rule, rule_of, with_stop, detach_line, with_rule, answers_line, answers_of}
use Rattle.tm_script.specs.Schedule.{one_of, activity_of, turn_of, no_turns, schedule_line, schedule_of}
use Rattle.tm_script.specs.Written.{is_line, is_who, is_editor, is_list, is_rule, is_book, has_supervisor, has_words, is_turn}
use Rattle.tm_script.proofs.ReadSteps.{OkIs, then_ok, then_any, if_ok, kinded_ok, word_ok, ended_ok, Below, number_ok, numbered_ok, map_ok, Keeps, lines_ok, all_more, last_of}
use Rattle.tm_script.specs.declared.edits.Edits.{Edits}
use Rattle.tm_script.specs.declared.schedule.Schedule.{Schedule}

-- ---- rules

abbrev IsEnd : Answer → Type 0
IsEnd last = not (code_of last == 3) ≡ true

end_ok : (word : Text) → OkIs IsEnd (last_answer word)
unfolding last_answer
end_ok word =
    if_ok IsEnd (texts_equal word (codes "yes")) (Ok Answer.Yes) (if texts_equal word (codes "no") then Ok Answer.No else Err ScriptKind.Keyword) refl
    (if_ok IsEnd (texts_equal word (codes "no")) (Ok Answer.No) (Err ScriptKind.Keyword) refl tt)

abbrev IsCourse : (ℕ × Answer) × List Text → Type 0
IsCourse x = (x.0.0 < 256) × IsEnd x.0.1

retries_ok : (words : List Text) → OkIs IsCourse (retries_at words)
unfolding retries_at
retries_ok words = then_ok (Below 256) IsCourse (number_at 256 words) _ (number_ok 256 words) (λ n h. then_ok (λ (x : Answer × List Text). IsEnd x.0) IsCourse (word_at last_answer n.1) _ (word_ok IsEnd last_answer n.1 end_ok) (λ last k. (h, k)))

course_ok : (words : List Text) → OkIs IsCourse (answer_at words)
unfolding answer_at
course_ok [] = tt
course_ok (word ∷ words) =
    if_ok IsCourse (texts_equal word (codes "retry")) (retries_at words) (last_answer word >>= λ last. Ok ((0, last), words)) (retries_ok words)
    (then_ok IsEnd IsCourse (last_answer word) _ (end_ok word) (λ last h. (omega arith, h)))

-- ---- lists of words

abbrev pub IsPattern : Pattern → Type 0
IsPattern pattern_ = is_right pattern_ ≡ true

pub pattern_ok : (word : Text) → OkIs IsPattern (list_word word)
unfolding list_word
pattern_ok word =
    if_ok IsPattern (is_colon word) (Err ScriptKind.Word) (kinded ScriptKind.Word (pattern_of word)) tt (kinded_ok IsPattern ScriptKind.Word (pattern_of word) (λ pattern_ e. read-right word pattern_ e))

abbrev pub IsList : ListWords → Type 0
IsList list = is_list list ≡ true

-- patterns in their grammar, and one or more of them
pub record ArePatterns (patterns : List Pattern) : Type 0 where
  pub some : not (is_empty patterns) ≡ true
  pub right : list_all is_right patterns ≡ true

not_over : {A : Type 0} (xs : List A) (x : A) → not (is_empty (xs ++ x ∷ [])) ≡ true
not_over [] x = refl
not_over (first ∷ xs) x = refl

pub one_more : (patterns : List Pattern) (pattern_ : Pattern) → list_all is_right patterns ≡ true → IsPattern pattern_ → ArePatterns (patterns ++ pattern_ ∷ [])
one_more patterns pattern_ h k = record { some = not_over patterns pattern_; right = all_more is_right patterns pattern_ h k }

or_true : (b : Bool) → (b || true) ≡ true
or_true true = refl
or_true false = refl

pub list_made : (patterns : List Pattern) (any : Bool) → (any || not (is_empty patterns)) ≡ true → list_all is_right patterns ≡ true → IsList (listed patterns any)
list_made patterns any h k = all (any || not (is_empty patterns)) (list_all is_right patterns) h k

after_ok : (words : List Text) (patterns : List Pattern) → ArePatterns patterns → OkIs IsList (list_after patterns words)
unfolding list_after
after_ok [] patterns h = list_made patterns false h.some h.right
after_ok (word ∷ words) patterns h =
    if_ok IsList (is_last words && texts_equal word (codes "any")) (Ok (listed patterns true)) (list_word word >>= λ pattern_. list_after (patterns ++ pattern_ ∷ []) words)
    (list_made patterns true refl h.right)
    (then_ok IsPattern IsList (list_word word) _ (pattern_ok word) (λ pattern_ k. after_ok words (patterns ++ pattern_ ∷ []) (one_more patterns pattern_ h.right k)))

first_ok : (word : Text) (words : List Text) → OkIs IsList (list_after [] (word ∷ words))
unfolding list_after
first_ok word words =
    if_ok IsList (is_last words && texts_equal word (codes "any")) (Ok (listed [] true)) (list_word word >>= λ pattern_. list_after ([] ++ pattern_ ∷ []) words)
    refl
    (then_ok IsPattern IsList (list_word word) _ (pattern_ok word) (λ pattern_ k. after_ok words ([] ++ pattern_ ∷ []) (one_more [] pattern_ refl k)))

pub list_ok : (words : List Text) → OkIs IsList (list_of words)
unfolding list_of
list_ok [] = tt
list_ok (word ∷ words) = first_ok word words

pub list_at_ok : (words : List Text) → OkIs (λ (x : ListWords × List Text). IsList x.0) (list_at words)
unfolding list_at
list_at_ok words =
    then_ok IsList (λ x. IsList x.0) (list_of (take (colon_place words) words)) _ (list_ok (take (colon_place words) words)) (λ list h.
    then_any (λ x. IsList x.0) (colon_at (drop (colon_place words) words)) _ (λ rest. h))

-- ---- rules

abbrev IsRule : BookRule → Type 0
IsRule one = is_rule one ≡ true

course_rule : (course : ℕ × Answer) (domain line : ListWords) → course.0 < 256 → IsEnd course.1 → IsList domain → IsList line → IsRule (rule course domain line)
unfolding is_rule
course_rule course domain line h k d l =
    all (not (code_of course.1 == 3) && nat_lt course.0 256) (is_list domain && is_list line) (all (not (code_of course.1 == 3)) (nat_lt course.0 256) k (lt-ltb course.0 256 h)) (all (is_list domain) (is_list line) d l)

rule_ok : (words : List Text) → OkIs IsRule (rule_of words)
unfolding rule_of
rule_ok words =
    then_ok IsCourse IsRule (answer_at words) _ (course_ok words) (λ course h.
    then_any IsRule (colon_at course.1) _ (λ lists.
    then_ok (λ (x : ListWords × List Text). IsList x.0) IsRule (list_at lists) _ (list_at_ok lists) (λ domain d.
    then_ok IsList IsRule (list_of domain.1) _ (list_ok domain.1) (λ line l. course_rule course.0 domain.0 line h.0 h.1 d l))))

abbrev IsBook : Book → Type 0
IsBook book = is_book book ≡ true

detach_ok : (P : Book → Type 0) (book : Book) (words : List Text) → ((n : ℕ) → n < 2 ^ 64 → P (with_stop book n)) → OkIs P (detach_line book words)
unfolding detach_line
detach_ok P book words h =
    if_ok P (is_some book.stop) (Err ScriptKind.Twice) (number_at (2 ^ 64) words >>= λ n. ended (with_stop book n.0) n.1) tt
    (then_ok (Below (2 ^ 64)) P (number_at (2 ^ 64) words) _ (number_ok (2 ^ 64) words) (λ n k. ended_ok P (with_stop book n.0) n.1 (h n.0 k)))

answers_ok : (P : Book → Type 0) (book : Book) (key : Text) (words : List Text) → ((one : BookRule) → IsRule one → P (with_rule book one)) → ((n : ℕ) → n < 2 ^ 64 → P (with_stop book n)) → OkIs P (answers_line book key words)
unfolding answers_line
answers_ok P book key words by_rule by_stop =
    if_ok P (texts_equal key (codes "rule")) (rule_of words >>= (λ one. Ok (with_rule book one))) (if texts_equal key (codes "detach") then detach_line book words else Err ScriptKind.Keyword)
    (then_ok IsRule P (rule_of words) _ (rule_ok words) by_rule)
    (if_ok P (texts_equal key (codes "detach")) (detach_line book words) (Err ScriptKind.Keyword) (detach_ok P book words by_stop) tt)

abbrev stop_fits : Book → Bool
stop_fits book = option_map_or (λ n. nat_lt n (2 ^ 64)) book.stop true

books_kept : Keeps IsBook answers_line
unfolding is_book
books_kept book key words are h =
    let parts = both (list_all is_rule book.rules) (stop_fits book) h in
    answers_ok IsBook book key words
    (λ one k. all (list_all is_rule (book.rules ++ one ∷ [])) (stop_fits book) (all_more is_rule book.rules one parts.0 k) parts.1)
    (λ n k. all (list_all is_rule book.rules) (nat_lt n (2 ^ 64)) parts.0 (lt-ltb n (2 ^ 64) k))

no_book : IsBook no_rules
unfolding is_book
no_book = refl

pub books_right : (text : Text) (book : Book) → answers_of text ≡ Ok book → is_book book ≡ true
unfolding answers_of
books_right text book e = subst (OkIs IsBook) e (lines_ok IsBook answers_line books_kept 1 (lines_of text) no_rules no_book)

-- ---- the supervisor

abbrev Stands : Book → Type 0
Stands book = has_supervisor book ≡ true

or_false : (b : Bool) → (b || false) ≡ b
or_false true = refl
or_false false = refl

line_stands : (book : Book) (key : Text) (words : List Text) → OkIs Stands (answers_line book key words)
line_stands book key words = answers_ok Stands book key words (λ one k. ap (λ b. b || is_some book.stop) (not_over book.rules one)) (λ n k. or_true (not (is_empty book.rules)))

-- a book read so far, and lines that come
abbrev Stood : Book → List Text → Book → Type 0
Stood book texts next = has_supervisor next ≡ (has_supervisor book || has_words texts)

words_stand : (book : Book) (texts words : List Text) (number : ℕ) → ((b : Book) → OkIs (Stood b texts) (script_lines answers_line (number + 1) texts b)) → OkIs (λ (next : Book). has_supervisor next ≡ (has_supervisor book || (not (is_empty words) || has_words texts))) (numbered number (line_read answers_line book words) >>= λ next. script_lines answers_line (number + 1) texts next)
words_stand book texts [] number more = more book
words_stand book texts (key ∷ words) number more =
    then_ok Stands (λ (next : Book). has_supervisor next ≡ (has_supervisor book || true)) (numbered number (answers_line book key words)) (λ next. script_lines answers_line (number + 1) texts next)
    (numbered_ok Stands number (answers_line book key words) (line_stands book key words))
    (λ next h. map_ok (Stood next texts) (λ (last : Book). has_supervisor last ≡ (has_supervisor book || true)) (script_lines answers_line (number + 1) texts next) (λ last k. k ∙ ap (λ b. b || has_words texts) h ∙ sym (or_true (has_supervisor book))) (more next))

lines_stand : (texts : List Text) (number : ℕ) (book : Book) → OkIs (Stood book texts) (script_lines answers_line number texts book)
unfolding script_lines
lines_stand [] number book = sym (or_false (has_supervisor book))
lines_stand (text ∷ texts) number book = words_stand book texts (words_of text) number (λ b. lines_stand texts (number + 1) b)

pub supervisor_stands : (text : Text) (book : Book) → answers_of text ≡ Ok book → has_supervisor book ≡ has_words (lines_of text)
unfolding answers_of
supervisor_stands text book e = subst (OkIs (Stood no_rules (lines_of text))) e (lines_stand (lines_of text) 1 no_rules)

-- ---- turns

abbrev IsNamed : ℕ → ℕ → Type 0
IsNamed count n = (nat_le 1 n && nat_le n count) ≡ true

named_by : (count n : ℕ) (a b : Bool) → (n == 0) ≡ a → nat_lt count n ≡ b → OkIs (IsNamed count) (if a || b then Err ScriptKind.NoActivity else Ok n)
named_by count n true b e f = tt
named_by count n false true e f = tt
named_by count n false false e f = all (nat_le 1 n) (nat_le n count) (le-leb 1 n (from_one n e)) (le-leb n count (ltb-false count n f))
  where
    from_one : (m : ℕ) → (m == 0) ≡ false → 1 ≤ m
    from_one zero g = absurd cc
    from_one (suc m) g = omega arith

one_ok : (count n : ℕ) → OkIs (IsNamed count) (one_of count n)
one_ok count n = named_by count n (n == 0) (nat_lt count n) refl refl

activity_ok : (count : ℕ) (words : List Text) → OkIs (IsNamed count) (activity_of count words)
unfolding activity_of
activity_ok count words = then_any (IsNamed count) (number_at (2 ^ 64) words) _ (λ number. then_ok (IsNamed count) (IsNamed count) (one_of count number.0) _ (one_ok count number.0) (λ n h. ended_ok (IsNamed count) n number.1 h))

abbrev IsTurn : ℕ → ℕ → Turn → Type 0
IsTurn trees editors turn = is_turn trees editors turn ≡ true

turn_ok : (trees editors : ℕ) (key : Text) (words : List Text) → OkIs (IsTurn trees editors) (turn_of trees editors key words)
unfolding turn_of is_turn
turn_ok trees editors key words =
    if_ok (IsTurn trees editors) (texts_equal key (codes "tree")) (activity_of trees words >>= (λ n. Ok (Turn.Tree n))) _ (then_ok (IsNamed trees) (IsTurn trees editors) (activity_of trees words) _ (activity_ok trees words) (λ n h. h))
    (if_ok (IsTurn trees editors) (texts_equal key (codes "editor")) (activity_of editors words >>= (λ n. Ok (Turn.Editor n))) _ (then_ok (IsNamed editors) (IsTurn trees editors) (activity_of editors words) _ (activity_ok editors words) (λ n h. h))
    (if_ok (IsTurn trees editors) (texts_equal key (codes "desk")) (ended Turn.Desk words) (Err ScriptKind.Keyword) (ended_ok (IsTurn trees editors) Turn.Desk words refl) tt))

-- so many trees and editors, and turns of them
record AreTurns (trees editors : ℕ) (schedule : Schedule) : Type 0 where
  trees_are : schedule.trees ≡ trees
  editors_are : schedule.editors ≡ editors
  turns_are : list_all (is_turn trees editors) schedule.turns ≡ true

turns_kept : (trees editors : ℕ) → Keeps (AreTurns trees editors) schedule_line
unfolding schedule_line
turns_kept trees editors schedule key words are h =
    then_ok (IsTurn trees editors) (AreTurns trees editors) (turn_of schedule.trees schedule.editors key words) _
    (subst (λ n. OkIs (IsTurn trees editors) (turn_of n schedule.editors key words)) (sym h.trees_are) (subst (λ n. OkIs (IsTurn trees editors) (turn_of trees n key words)) (sym h.editors_are) (turn_ok trees editors key words)))
    (λ turn k. record { trees_are = h.trees_are; editors_are = h.editors_are; turns_are = all_more (is_turn trees editors) schedule.turns turn h.turns_are k })

pub turns_right : (trees editors : ℕ) (text : Text) (turns : List Turn) → schedule_of trees editors text ≡ Ok turns → list_all (is_turn trees editors) turns ≡ true
unfolding schedule_of
turns_right trees editors text turns e =
    subst (OkIs (λ ts. list_all (is_turn trees editors) ts ≡ true)) e
    (then_ok (AreTurns trees editors) (λ ts. list_all (is_turn trees editors) ts ≡ true) (script_of schedule_line (no_turns trees editors) text) (λ schedule. Ok schedule.turns)
    (lines_ok (AreTurns trees editors) schedule_line (turns_kept trees editors) 1 (lines_of text) (no_turns trees editors) (record { trees_are = refl; editors_are = refl; turns_are = refl }))
    (λ schedule h. h.turns_are))

-- ---- editors

-- the first byte of a name is `/` where its spelling begins so
front_47 : (word : Word) → begins_with_byte 47 (spell word) ≡ true → begins_with_byte 47 word ≡ true
front_47 [] h = absurd cc
front_47 (b ∷ word) h = by_byte (b == 92) refl (nat_lt 32 b && nat_lt b 127) refl h
  where
    by_byte : (s : Bool) → (b == 92) ≡ s → (t : Bool) → (nat_lt 32 b && nat_lt b 127) ≡ t → begins_with_byte 47 (spell (b ∷ word)) ≡ true → begins_with_byte 47 (b ∷ word) ≡ true
    by_byte true e t f k = absurd (let no : begins_with_byte 47 (spell (b ∷ word)) ≡ false = rw e refl in cc)
    by_byte false e true f k = (let is : begins_with_byte 47 (spell (b ∷ word)) ≡ (b == 47) = rw (e, f) refl in sym is ∙ k)
    by_byte false e false f k = absurd (let no : begins_with_byte 47 (spell (b ∷ word)) ≡ false = rw (e, f) refl in cc)

abbrev IsExe : Word → Type 0
IsExe word = is_path_word word ≡ true

exe_ok : (text : Text) → OkIs IsExe (exe_word text)
unfolding exe_word
exe_ok text = by_front (begins_with_byte 47 text) refl
  where
    by_word : begins_with_byte 47 text ≡ true → (o : Option Word) → spelled_word text ≡ o → OkIs IsExe (or_kind ScriptKind.Word o)
    by_word h None e = tt
    by_word h (Some word) e =
        all (begins_with_byte 47 word) (are_bytes word) (front_47 word (subst (λ (t : Text). begins_with_byte 47 t ≡ true) (word_found text word e) h)) (word_small text word e)

    by_front : (b : Bool) → begins_with_byte 47 text ≡ b → OkIs IsExe (if b then or_kind ScriptKind.Word (spelled_word text) else Err ScriptKind.Word)
    by_front true h = by_word h (spelled_word text) refl
    by_front false h = tt

abbrev IsName : DomainName → Type 0
IsName name = is_domain_name is_path name ≡ true

domain_ok : (words : List Text) → OkIs IsName (domain_rest words)
unfolding domain_rest
domain_ok [] = tt
domain_ok (word ∷ words) = kinded_ok IsName ScriptKind.Domain (domain_words (word ∷ words)) (λ name e. (words_right (word ∷ words) name e).1)

abbrev IsEditor : Editor → Type 0
IsEditor editor = is_editor editor ≡ true

editor_made : (uid euid : ℕ) (exe : Word) (domain : DomainName) → uid < 2 ^ 32 → euid < 2 ^ 32 → IsExe exe → IsName domain → IsEditor (new_editor uid euid exe domain)
unfolding is_editor
editor_made uid euid exe domain u v h k =
    let numbers = all (nat_lt uid (2 ^ 32)) (nat_lt euid (2 ^ 32)) (lt-ltb uid (2 ^ 32) u) (lt-ltb euid (2 ^ 32) v) in
    let names = all (is_path_word exe) (is_domain_name is_path domain) h k in
    all (is_who (new_editor uid euid exe domain)) true (all (nat_lt uid (2 ^ 32) && nat_lt euid (2 ^ 32)) (is_path_word exe && is_domain_name is_path domain) numbers names) refl

editor_ok : (words : List Text) → OkIs IsEditor (editor_of words)
unfolding editor_of
editor_ok words =
    then_ok (Below (2 ^ 32)) IsEditor (number_at (2 ^ 32) words) _ (number_ok (2 ^ 32) words) (λ uid u.
    then_ok (Below (2 ^ 32)) IsEditor (number_at (2 ^ 32) uid.1) _ (number_ok (2 ^ 32) uid.1) (λ euid v.
    then_ok (λ (x : Word × List Text). IsExe x.0) IsEditor (word_at exe_word euid.1) _ (word_ok IsExe exe_word euid.1 exe_ok) (λ exe h.
    then_ok IsName IsEditor (domain_rest exe.1) _ (domain_ok exe.1) (λ domain k. editor_made uid.0 euid.0 exe.0 domain u v h k))))

abbrev IsLine : Text → Type 0
IsLine text = is_line text ≡ true

line_made : (word : Text) (words : List Text) → list_all is_word (word ∷ words) ≡ true → IsLine (joined (word ∷ words))
unfolding is_line
line_made word words are = let again : words_of (joined (word ∷ words)) ≡ word ∷ words = words_again (word ∷ words) are in rw again (texts_full (joined (word ∷ words)))

text_ok : (words : List Text) → list_all is_word words ≡ true → OkIs IsLine (line_text words)
text_ok [] are = tt
text_ok (word ∷ words) are = line_made word words are

line_added : (editor : Editor) (file : FileKind) (text : Text) → IsEditor editor → IsLine text → IsEditor (with_line editor file text)
unfolding is_editor
line_added editor file text h k =
    let parts = both (is_who editor) (list_all (λ (edit : FileKind × Text). is_line edit.1) editor.lines) h in
    all (is_who editor) _ parts.0 (all_more (λ (edit : FileKind × Text). is_line edit.1) editor.lines (file, text) parts.1 k)

abbrev AreEditors : Edits → Type 0
AreEditors edits = list_all is_editor (all_editors edits) ≡ true

edit_ok : (edits : Edits) (last : Option Editor) (file : FileKind) (words : List Text) → list_all is_word words ≡ true → list_all is_editor (edits.before ++ option_to_list last) ≡ true → OkIs AreEditors (edit_by edits last file words)
edit_ok edits None file words are h = tt
edit_ok edits (Some editor) file words are h =
    let parts = last_of is_editor edits.before editor h in
    then_ok IsLine AreEditors (line_text words) _ (text_ok words are) (λ text k. all_more is_editor edits.before (with_line editor file text) parts.0 (line_added editor file text parts.1 k))

editors_kept : Keeps AreEditors edits_line
unfolding edits_line
editors_kept edits key words are h =
    let rest : list_all is_word words ≡ true = (both (is_word key) (list_all is_word words) are).1 in
    if_ok AreEditors (texts_equal key (codes "editor")) (editor_of words >>= (λ editor. Ok (record { before = all_editors edits; last = Some editor }))) _
    (then_ok IsEditor AreEditors (editor_of words) _ (editor_ok words) (λ editor k. all_more is_editor (all_editors edits) editor h k))
    (then_any AreEditors (file_of key) _ (λ file. edit_ok edits edits.last file words rest h))

pub editors_right : (text : Text) (editors : List Editor) → edits_of text ≡ Ok editors → list_all is_editor editors ≡ true
unfolding edits_of
editors_right text editors e =
    subst (OkIs (λ es. list_all is_editor es ≡ true)) e
    (then_ok AreEditors (λ es. list_all is_editor es ≡ true) (script_of edits_line no_edits text) (λ edits. Ok (all_editors edits))
    (lines_ok AreEditors edits_line editors_kept 1 (lines_of text) no_edits refl)
    (λ edits h. h))
