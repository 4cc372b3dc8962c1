-- Scripts whose first wrong word is not their only one, and forms that are right next to wrong
-- ones.
use Rattle.std.specs.Prelude.{◌≡◌, ℕ, List, [], ◌∷◌, map, Option, Some, None, Result, Ok, Err, codes, refl}
use Rattle.tm_word.specs.Prelude.{Text, component_matches, components_match, head_of, left_by, matches, part_matches, spelled_word, word_of, words_of}
use Rattle.tm_number.specs.Numbers.{number_of, value_of, plain_of}
use Rattle.tm_pattern.specs.Tokens.{token_at}
use Rattle.tm_pattern.specs.Reading.{step, ended, parsed, pattern_of}
use Rattle.tm_domain.specs.Names.{is_path, domain_of}
use Rattle.tm_rules.specs.Types.{Answer, Book, Query, ScriptKind, Turn}
use Rattle.tm_rules.specs.Prelude.{book_answer}
use Rattle.tm_line.specs.Domains.{domain_words}
use Rattle.tm_script.specs.Steps.{number_at}
use Rattle.tm_script.specs.Lines.{script_lines}
use Rattle.tm_script.specs.Edits.{exe_word, domain_rest, editor_of, file_of, edits_line, edits_of}
use Rattle.tm_script.specs.Answers.{last_answer, retries_at, answer_at, colon_at, list_word, list_after, list_of, list_at, rule_of, detach_line, answers_line, answers_of}
use Rattle.tm_script.specs.Schedule.{activity_of, turn_of, schedule_line, schedule_of}

-- the definitions that a script's reading goes through, and a book's answers
unfoldable read : Unit {0}
unfolding words_of left_by part_matches component_matches components_match matches number_of value_of token_at step ended parsed pattern_of spelled_word word_of head_of is_path domain_of book_answer plain_of domain_words number_at script_lines exe_word domain_rest editor_of file_of edits_line edits_of last_answer retries_at answer_at colon_at list_word list_after list_of list_at rule_of detach_line answers_line answers_of activity_of turn_of schedule_line schedule_of
read = tt

-- the fault of a text, none where it is read
abbrev fault : {A : Type 0} → Result A (ℕ × ScriptKind) → Option (ℕ × ScriptKind)
fault (Ok x) = None
fault (Err e) = Some e

-- the faults of texts of one line
abbrev faults : {A : Type 0} → (Text → Result A (ℕ × ScriptKind)) → List Text → List (Option (ℕ × ScriptKind))
faults reads texts = map (λ text. fault (reads text)) texts

-- Of several wrong words of a line the first decides, and what is missing comes last

editors_first_wrong_word : faults edits_of (codes "editor x y a kernel" ∷ codes "editor 0 y a kernel" ∷ codes "editor 0 0 a kernel" ∷ codes "editor 0 0 /a kernel x" ∷ codes "editor 0 0 a" ∷ codes "x 0 0 a kernel" ∷ []) ≡ Some (1, ScriptKind.Number) ∷ Some (1, ScriptKind.Number) ∷ Some (1, ScriptKind.Word) ∷ Some (1, ScriptKind.Domain) ∷ Some (1, ScriptKind.Word) ∷ Some (1, ScriptKind.Keyword) ∷ []
unfolding read
editors_first_wrong_word = refl

rules_first_wrong_word : faults answers_of (codes "rule maybe x \\q" ∷ codes "rule retry 256 maybe x" ∷ codes "rule retry 2 maybe x" ∷ codes "rule yes x \\q : :" ∷ codes "rule yes : \\q : :" ∷ codes "rule yes : a : : \\q" ∷ codes "rule yes : a : b \\q" ∷ []) ≡ Some (1, ScriptKind.Keyword) ∷ Some (1, ScriptKind.Number) ∷ Some (1, ScriptKind.Keyword) ∷ Some (1, ScriptKind.Arity) ∷ Some (1, ScriptKind.Word) ∷ Some (1, ScriptKind.Word) ∷ Some (1, ScriptKind.Word) ∷ []
unfolding read
rules_first_wrong_word = refl

-- the second `:` is missing: a wrong word of the first list comes before that
a_missing_colon_comes_last : faults answers_of (codes "rule yes : a \\q" ∷ codes "rule yes : a b" ∷ codes "rule yes : a any" ∷ []) ≡ Some (1, ScriptKind.Word) ∷ Some (1, ScriptKind.Arity) ∷ Some (1, ScriptKind.Arity) ∷ []
unfolding read
a_missing_colon_comes_last = refl

turns_first_wrong_word : faults (schedule_of 2 1) (codes "trees x y" ∷ codes "tree x y" ∷ codes "tree 9 y" ∷ codes "tree 2 y" ∷ []) ≡ Some (1, ScriptKind.Keyword) ∷ Some (1, ScriptKind.Number) ∷ Some (1, ScriptKind.NoActivity) ∷ Some (1, ScriptKind.Arity) ∷ []
unfolding read
turns_first_wrong_word = refl

-- Of several wrong lines the first decides

first_wrong_line : faults answers_of (codes "detach 1\nrule yes : any : any\nrule no : any\ndetach 2" ∷ codes "detach 1\n\ndetach 2\nx" ∷ []) ≡ Some (3, ScriptKind.Arity) ∷ Some (3, ScriptKind.Twice) ∷ []
unfolding read
first_wrong_line = refl

-- an edit after an editor is right, whatever its line says; one before it isn't, whatever its line
-- lacks
edits_and_editors : faults edits_of (codes "editor 0 0 /a <kernel>\nprofile ::" ∷ codes "profile ::\neditor 0 0 /a <kernel>" ∷ codes "profile\neditor 0 0 /a <kernel>" ∷ []) ≡ None ∷ Some (1, ScriptKind.NoEditor) ∷ Some (1, ScriptKind.NoEditor) ∷ []
unfolding read
edits_and_editors = refl

-- `desk` is right also where there is nobody else
desk_alone : schedule_of 0 0 (codes "desk\n") ≡ Ok (Turn.Desk ∷ [])
unfolding read
desk_alone = refl

-- nobody is there to name
nobody_named : faults (schedule_of 0 0) (codes "tree 1" ∷ codes "editor 1" ∷ []) ≡ Some (1, ScriptKind.NoActivity) ∷ Some (1, ScriptKind.NoActivity) ∷ []
unfolding read
nobody_named = refl

-- What a list matches

-- what the book that a text writes answers a query; no book, no answer
abbrev answered : Result Book (ℕ × ScriptKind) → Query → Option Answer
answered (Ok book) asked = Some (book_answer book asked)
answered (Err e) asked = None

abbrev asks : Text → Text → Query
asks domain line = record { serial = 1; retry = 0; domain = domain; line = line }

-- `any` alone matches every list of words, also none; `any` before another word is a word of its
-- own
any_alone : map (answered (answers_of (codes "rule yes : any : any"))) (asks (codes "<kernel> /a") (codes "file read /x") ∷ asks [] [] ∷ []) ≡ Some Answer.Yes ∷ Some Answer.Yes ∷ []
unfolding read
any_alone = refl

any_before_others : map (answered (answers_of (codes "rule yes : any <kernel> : any"))) (asks (codes "any <kernel>") [] ∷ asks (codes "/a <kernel>") [] ∷ asks (codes "<kernel>") [] ∷ []) ≡ Some Answer.Yes ∷ Some Answer.No ∷ Some Answer.No ∷ []
unfolding read
any_before_others = refl
