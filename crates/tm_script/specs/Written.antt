-- What every script that is read holds.
use Rattle.std.specs.Prelude.{◌≡◌, ℕ, ◌+◌, ◌^◌, ◌==◌, ◌&&◌, ◌||◌, ◌≤◌, nat_le, nat_lt, not, Bool, true, false, List, [], ◌∷◌, length, Ok, Err, is_some}
use Rattle.std.specs.List.{list_all, list_any}
use Rattle.std.specs.Option.{option_map_or}
use Rattle.tm_word.specs.Prelude.{Text, is_empty, joined, lines_of, texts_equal, words_of}
use Rattle.tm_pattern.specs.Grammar.{is_right}
use Rattle.tm_rules.specs.Types.{Book, BookRule, Editor, FileKind, ListWords, ScriptKind, Turn}
use Rattle.tm_rules.specs.Prelude.{code_of, is_domain_name, is_path_word}
use Rattle.tm_line.specs.Names.{is_path}
use Rattle.tm_script.specs.Lines.{FirstWrong}
use Rattle.tm_script.specs.Edits.{no_edits, edits_line, edits_of}
use Rattle.tm_script.specs.Answers.{no_rules, answers_line, answers_of}
use Rattle.tm_script.specs.Schedule.{no_turns, schedule_line, schedule_of}

-- ---- editors

-- a line has words, and it is these joined by single spaces
unfoldable pub is_line : Text → Bool
is_line text = not (is_empty (words_of text)) && texts_equal (joined (words_of text)) text

-- who edits: numbers of 32 bits, a path, and a right domain name
abbrev pub is_who : Editor → Bool
is_who editor =
    (nat_lt editor.uid (2 ^ 32) && nat_lt editor.euid (2 ^ 32))
    && (is_path_word editor.exe && is_domain_name is_path editor.domain)

-- and the lines are lines
unfoldable pub is_editor : Editor → Bool
is_editor editor =
    is_who editor && list_all (λ (edit : FileKind × Text). is_line edit.1) editor.lines

-- all edits of all editors
abbrev pub edit_count : List Editor → ℕ
edit_count [] = 0
edit_count (editor ∷ editors) = length editor.lines + edit_count editors

-- ---- books

-- a list has a pattern, or takes words that are left, and its patterns are in their grammar
abbrev pub is_list : ListWords → Bool
is_list list = (list.any || not (is_empty list.patterns)) && list_all is_right list.patterns

-- a rule ends with yes or no, after fewer than 256 retries, and has two lists
unfoldable pub is_rule : BookRule → Bool
is_rule rule =
    (not (code_of rule.last == 3) && nat_lt rule.retries 256)
    && (is_list rule.domain && is_list rule.line)

-- its rules are rules, and its number of answers has 64 bits
unfoldable pub is_book : Book → Bool
is_book book = list_all is_rule book.rules && option_map_or (λ n. nat_lt n (2 ^ 64)) book.stop true

-- the book says something: a supervisor stands
abbrev pub has_supervisor : Book → Bool
has_supervisor book = not (is_empty book.rules) || is_some book.stop

-- some line has a word
abbrev pub has_words : List Text → Bool
has_words lines = list_any (λ line. not (is_empty (words_of line))) lines

-- ---- turns

-- a turn of a tree or an editor that is there, or of the desk
unfoldable pub is_turn : ℕ → ℕ → Turn → Bool
is_turn trees editors (Turn.Tree n) = nat_le 1 n && nat_le n trees
is_turn trees editors (Turn.Editor n) = nat_le 1 n && nat_le n editors
is_turn trees editors Turn.Desk = true
is_turn trees editors Turn.Attach = false
is_turn trees editors (Turn.Answer serial code) = false
is_turn trees editors Turn.Detach = false

-- ---- the laws

-- every editor that is read is one
abbrev pub EditorsAreRight : Type 0
EditorsAreRight =
    (text : Text) (editors : List Editor) → edits_of text ≡ Ok editors
    → list_all is_editor editors ≡ true

-- every book that is read is one
abbrev pub BooksAreRight : Type 0
BooksAreRight = (text : Text) (book : Book) → answers_of text ≡ Ok book → is_book book ≡ true

-- a supervisor stands exactly where the file has a line that isn't empty
abbrev pub SupervisorStands : Type 0
SupervisorStands =
    (text : Text) (book : Book) → answers_of text ≡ Ok book
    → has_supervisor book ≡ has_words (lines_of text)

-- every turn that is read is one
abbrev pub TurnsAreRight : Type 0
TurnsAreRight =
    (trees editors : ℕ) (text : Text) (turns : List Turn)
    → schedule_of trees editors text ≡ Ok turns → list_all (is_turn trees editors) turns ≡ true

-- a text has no more editors and edits than bytes
abbrev pub EditsAreFew : Type 0
EditsAreFew =
    (text : Text) (editors : List Editor) → edits_of text ≡ Ok editors
    → length editors + edit_count editors ≤ length text

-- nor more turns
abbrev pub TurnsAreFew : Type 0
TurnsAreFew =
    (trees editors : ℕ) (text : Text) (turns : List Turn)
    → schedule_of trees editors text ≡ Ok turns → length turns ≤ length text

-- a fault is the first wrong line's
abbrev pub EditsFaultIsFirst : Type 0
EditsFaultIsFirst =
    (text : Text) (number : ℕ) (kind : ScriptKind) → edits_of text ≡ Err (number, kind)
    → FirstWrong edits_line no_edits text number kind

abbrev pub AnswersFaultIsFirst : Type 0
AnswersFaultIsFirst =
    (text : Text) (number : ℕ) (kind : ScriptKind) → answers_of text ≡ Err (number, kind)
    → FirstWrong answers_line no_rules text number kind

abbrev pub ScheduleFaultIsFirst : Type 0
ScheduleFaultIsFirst =
    (trees editors : ℕ) (text : Text) (number : ℕ) (kind : ScriptKind)
    → schedule_of trees editors text ≡ Err (number, kind)
    → FirstWrong schedule_line (no_turns trees editors) text number kind
