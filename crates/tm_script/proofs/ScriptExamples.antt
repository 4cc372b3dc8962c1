-- Worked scripts: what each form gives, and the first wrong line with the kind of each wrong one.
use Rattle.std.proofs.Common.{◌≡◌, ℕ, Bool, true, false, List, [], ◌∷◌, Option, Some, None, Result, Ok, Err, refl}
use Rattle.std.specs.Prelude.{codes, map}
use Rattle.tm_word.specs.Prelude.{Pattern, Text, component_matches, components_match, head_of, left_by, literal, matches, part_matches, spelled_word, word_of, words_of}
use Rattle.tm_rules.specs.Types.{Answer, Book, BookRule, Editor, Element, FileKind, ListWords, Query, Repeat, ScriptKind, Turn}
use Rattle.tm_number.specs.Numbers.{number_of, value_of, plain_of}
use Rattle.tm_pattern.specs.Tokens.{token_at}
use Rattle.tm_pattern.specs.Reading.{step, ended, parsed, pattern_of}
use Rattle.tm_line.specs.Names.{is_path, domain_of}
use Rattle.tm_rules.specs.Prelude.{book_answer}
use Rattle.tm_line.specs.Domains.{domain_words}
use Rattle.tm_script.specs.Steps.{number_at}
use Rattle.tm_script.specs.Lines.{script_lines}
use Rattle.tm_script.specs.Edits.{exe_word, domain_rest, editor_of, file_of, edits_line, edits_of}
use Rattle.tm_script.specs.Answers.{last_answer, retries_at, answer_at, colon_at, list_word, list_after, list_of, list_at, rule_of, detach_line, answers_line, answers_of}
use Rattle.tm_script.specs.Schedule.{activity_of, turn_of, schedule_line, schedule_of}

-- the definitions that a script's reading goes through, and a book's answers
unfoldable computed : Unit {0}
unfolding words_of left_by part_matches component_matches components_match matches literal number_of value_of token_at step ended parsed pattern_of spelled_word word_of head_of is_path domain_of book_answer plain_of domain_words number_at script_lines exe_word domain_rest editor_of file_of edits_line edits_of last_answer retries_at answer_at colon_at list_word list_after list_of list_at rule_of detach_line answers_line answers_of activity_of turn_of schedule_line schedule_of
computed = tt

-- the faults of texts, none where one is read
abbrev fault : {A : Type 0} → Result A (ℕ × ScriptKind) → Option (ℕ × ScriptKind)
fault (Ok x) = None
fault (Err e) = Some e

abbrev faults : {A : Type 0} → (Text → Result A (ℕ × ScriptKind)) → List Text → List (Option (ℕ × ScriptKind))
faults read texts = map (λ text. fault (read text)) texts

-- ---- what is read

-- a file without words has no editor
pub no_editor_at_all : edits_of (codes "\n \t\n") ≡ Ok []
unfolding computed
no_editor_at_all = refl

abbrev editor : ℕ → ℕ → Text → Text → List (FileKind × Text) → Editor
editor uid euid exe domain lines = record { uid = uid; euid = euid; exe = exe; domain = domain; lines = lines }

-- two editors with their lines; each line is its words joined by single spaces, and not judged yet
pub two_editors :
    edits_of (codes "editor 0 4294967295 /usr\\040x <kernel>  /a\nmanager  /b \n\nprofile \\q :\t: \n editor 1 2 / </s>\nexception_policy a\ndomain_policy <kernel>\neditor 0 0 /a <kernel>")
    ≡ Ok (editor 0 4294967295 (codes "/usr x") (codes "<kernel> /a") ((FileKind.Manager, codes "/b") ∷ (FileKind.Profile, codes "\\q : :") ∷ [])
    ∷ editor 1 2 (codes "/") (codes "</s>") ((FileKind.Exception, codes "a") ∷ (FileKind.Domain, codes "<kernel>") ∷ [])
    ∷ editor 0 0 (codes "/a") (codes "<kernel>") []
    ∷ [])
unfolding computed
two_editors = refl

-- the pattern of these bytes alone, and the one of any bytes without a slash
abbrev own : Text → Pattern
own text = literal text

abbrev star : Pattern
star = record { repeat = Repeat.Once; first = Element.Star ∷ []; minus = [] } ∷ []

abbrev listed : List Pattern → Bool → ListWords
listed patterns any = record { patterns = patterns; any = any }

abbrev rule : ℕ → Answer → ListWords → ListWords → BookRule
rule retries last domain line = record { retries = retries; last = last; domain = domain; line = line }

-- a file without words is a book without rules
pub no_rule_at_all : answers_of (codes " \n") ≡ Ok (record { rules = []; stop = None })
unfolding computed
no_rule_at_all = refl

-- rules in order, and the number of answers where it stands
pub four_rules :
    answers_of (codes "rule yes : <kernel> any : file read \\*\nrule retry 255 no : any : any\n\ndetach 18446744073709551615\n rule retry 0 yes : any any : any x\nrule no : <kernel> : any any any")
    ≡ Ok (record {
      rules =
          rule 0 Answer.Yes (listed (own (codes "<kernel>") ∷ []) true) (listed (own (codes "file") ∷ own (codes "read") ∷ star ∷ []) false)
          ∷ rule 255 Answer.No (listed [] true) (listed [] true)
          ∷ rule 0 Answer.Yes (listed (own (codes "any") ∷ []) true) (listed (own (codes "any") ∷ own (codes "x") ∷ []) false)
          ∷ rule 0 Answer.No (listed (own (codes "<kernel>") ∷ []) false) (listed (own (codes "any") ∷ own (codes "any") ∷ []) true)
          ∷ [];
      stop = Some 18446744073709551615;
    })
unfolding computed
four_rules = refl

-- a supervisor that only leaves
pub only_detach : answers_of (codes "\ndetach 0") ≡ Ok (record { rules = []; stop = Some 0 })
unfolding computed
only_detach = refl

-- a schedule of two trees and one editor
pub some_turns : schedule_of 2 1 (codes "tree 1\n\n desk \neditor 1\ntree 2\ntree 1") ≡ Ok (Turn.Tree 1 ∷ Turn.Desk ∷ Turn.Editor 1 ∷ Turn.Tree 2 ∷ Turn.Tree 1 ∷ [])
unfolding computed
some_turns = refl

pub no_turn : schedule_of 0 0 (codes "") ≡ Ok []
unfolding computed
no_turn = refl

-- ---- what a book answers

abbrev query : ℕ → Text → Text → Query
query retry domain line = record { serial = 1; retry = retry; domain = domain; line = line }

-- what the book that a text writes answers; no book, no answer
abbrev answered : Result Book (ℕ × ScriptKind) → Query → Option Answer
answered (Ok book) asked = Some (book_answer book asked)
answered (Err e) asked = None

abbrev answers : Text → List Query → List (Option Answer)
answers text queries = map (λ asked. answered (answers_of text) asked) queries

abbrev kernel_asks : Text → Query
kernel_asks line = query 0 (codes "<kernel>") line

-- the first rule that matches decides
pub first_rule : answers (codes "rule no : <kernel> any : file read any\nrule yes : any : any") (kernel_asks (codes "file read /x") ∷ kernel_asks (codes "file write /x") ∷ []) ≡ (Some Answer.No ∷ Some Answer.Yes ∷ [])
unfolding computed
first_rule = refl

-- no where no rule matches, also where there is none
pub no_rule : answers (codes "detach 1") (kernel_asks (codes "file read /x") ∷ []) ≡ (Some Answer.No ∷ [])
unfolding computed
no_rule = refl

-- `retry N` asks for a retry N times
pub retries : answers (codes "rule retry 2 yes : any : any") (query 0 (codes "<kernel>") [] ∷ query 1 (codes "<kernel>") [] ∷ query 2 (codes "<kernel>") [] ∷ query 3 (codes "<kernel>") [] ∷ []) ≡ (Some Answer.Retry ∷ Some Answer.Retry ∷ Some Answer.Yes ∷ Some Answer.Yes ∷ [])
unfolding computed
retries = refl

-- as many words as patterns, or more with `any`; `any` that isn't last is a pattern of its own
-- bytes
pub counts : answers (codes "rule yes : <kernel> any : any b") (query 0 (codes "<kernel>") (codes "any b") ∷ query 0 (codes "<kernel> /a /b") (codes "any b") ∷ query 0 [] (codes "any b") ∷ kernel_asks (codes "a b") ∷ kernel_asks (codes "any b c") ∷ kernel_asks (codes "any") ∷ []) ≡ (Some Answer.Yes ∷ Some Answer.Yes ∷ Some Answer.No ∷ Some Answer.No ∷ Some Answer.No ∷ Some Answer.No ∷ [])
unfolding computed
counts = refl

-- a word's bytes are the characters as they are spelled: four of them for `\040`
pub spelled_bytes : answers (codes "rule yes : any : /x\\\\040y") (kernel_asks (codes "/x\\040y") ∷ []) ≡ (Some Answer.Yes ∷ [])
unfolding computed
spelled_bytes = refl

pub unspelled_bytes : answers (codes "rule yes : any : /x\\040y\nrule yes : any : /x\\?y") (kernel_asks (codes "/x\\040y") ∷ []) ≡ (Some Answer.No ∷ [])
unfolding computed
unspelled_bytes = refl

-- a name that ends in `/` wants a pattern that does
pub folders : answers (codes "rule yes : any : file read /a/\\*\nrule retry 1 no : any : file read /a/\\*/") (kernel_asks (codes "file read /a/b") ∷ kernel_asks (codes "file read /a/b/") ∷ kernel_asks (codes "file read /a/") ∷ []) ≡ (Some Answer.Yes ∷ Some Answer.Retry ∷ Some Answer.No ∷ [])
unfolding computed
folders = refl

-- ---- the first wrong line, and the kind of its first wrong word

-- a leading word is wrong, also before the first editor
pub edits_wrong_keyword : faults edits_of ((codes "x") ∷ (codes "edito 0 0 /a <kernel>") ∷ (codes "editors 0 0 /a <kernel>") ∷ (codes "Manager /a") ∷ (codes "domain /a") ∷ (codes "\n\n: x\n") ∷ (codes "editor 0 0 /a <kernel>\n\n rule yes : any : any") ∷ (codes "tree 1") ∷ []) ≡ (Some (1, ScriptKind.Keyword) ∷ Some (1, ScriptKind.Keyword) ∷ Some (1, ScriptKind.Keyword) ∷ Some (1, ScriptKind.Keyword) ∷ Some (1, ScriptKind.Keyword) ∷ Some (3, ScriptKind.Keyword) ∷ Some (3, ScriptKind.Keyword) ∷ Some (1, ScriptKind.Keyword) ∷ [])
unfolding computed
edits_wrong_keyword = refl

-- UID and EUID are plain numbers below 2^32
pub edits_wrong_number : faults edits_of ((codes "editor x") ∷ (codes "editor 01 0 /a <kernel>") ∷ (codes "editor 0x1 0 /a <kernel>") ∷ (codes "editor 4294967296 0 /a <kernel>") ∷ (codes "editor 0 -1 /a <kernel>") ∷ (codes "editor 0 99999999999999999999 a b") ∷ (codes "editor 0-0 0 /a <kernel>") ∷ (codes "editor 0 @G") ∷ (codes "editor 0 0 /a <kernel>\neditor 0 0 /a <kernel>\neditor 00 0 /a <kernel>") ∷ []) ≡ (Some (1, ScriptKind.Number) ∷ Some (1, ScriptKind.Number) ∷ Some (1, ScriptKind.Number) ∷ Some (1, ScriptKind.Number) ∷ Some (1, ScriptKind.Number) ∷ Some (1, ScriptKind.Number) ∷ Some (1, ScriptKind.Number) ∷ Some (1, ScriptKind.Number) ∷ Some (3, ScriptKind.Number) ∷ [])
unfolding computed
edits_wrong_number = refl

-- EXE is a literal path
pub edits_wrong_word : faults edits_of ((codes "editor 0 0 a <kernel>") ∷ (codes "editor 0 0 /\\* <kernel>") ∷ (codes "editor 0 0 /\\101 <kernel>") ∷ (codes "editor 0 0 @a x") ∷ (codes "editor 0 0 /a\\-b <kernel>") ∷ (codes "editor 0 0 /\\{a\\}/ <kernel>") ∷ (codes "editor 0 0 <kernel>") ∷ (codes "editor 0 0 /a\\") ∷ []) ≡ (Some (1, ScriptKind.Word) ∷ Some (1, ScriptKind.Word) ∷ Some (1, ScriptKind.Word) ∷ Some (1, ScriptKind.Word) ∷ Some (1, ScriptKind.Word) ∷ Some (1, ScriptKind.Word) ∷ Some (1, ScriptKind.Word) ∷ Some (1, ScriptKind.Word) ∷ [])
unfolding computed
edits_wrong_word = refl

-- the words after EXE are a domain name
pub edits_wrong_domain : faults edits_of ((codes "editor 0 0 /a kernel") ∷ (codes "editor 0 0 /a <kernel> x") ∷ (codes "editor 0 0 /a <a> /b") ∷ (codes "editor 0 0 /a </\\q>") ∷ (codes "editor 0 0 /a <kernel> <kernel>") ∷ (codes "editor 0 0 /a /b") ∷ []) ≡ (Some (1, ScriptKind.Domain) ∷ Some (1, ScriptKind.Domain) ∷ Some (1, ScriptKind.Domain) ∷ Some (1, ScriptKind.Domain) ∷ Some (1, ScriptKind.Domain) ∷ Some (1, ScriptKind.Domain) ∷ [])
unfolding computed
edits_wrong_domain = refl

-- an edit comes before the first editor; a missing LINE comes after that
pub edits_no_editor : faults edits_of ((codes "profile x") ∷ (codes "manager") ∷ (codes "exception_policy") ∷ (codes "\n\ndomain_policy x\neditor 0 0 /a <kernel>\n") ∷ []) ≡ (Some (1, ScriptKind.NoEditor) ∷ Some (1, ScriptKind.NoEditor) ∷ Some (1, ScriptKind.NoEditor) ∷ Some (3, ScriptKind.NoEditor) ∷ [])
unfolding computed
edits_no_editor = refl

-- a word is missing
pub edits_wrong_arity : faults edits_of ((codes "editor") ∷ (codes "editor 0") ∷ (codes "editor 0 0") ∷ (codes "editor 0 0 /a") ∷ (codes "editor 0 0 /a <kernel>\nprofile") ∷ (codes "editor 0 0 /a <kernel>\n\n manager \n") ∷ (codes "editor 0 0 /a <kernel>\nexception_policy x\ndomain_policy") ∷ []) ≡ (Some (1, ScriptKind.Arity) ∷ Some (1, ScriptKind.Arity) ∷ Some (1, ScriptKind.Arity) ∷ Some (1, ScriptKind.Arity) ∷ Some (2, ScriptKind.Arity) ∷ Some (3, ScriptKind.Arity) ∷ Some (3, ScriptKind.Arity) ∷ [])
unfolding computed
edits_wrong_arity = refl

-- a leading word or a word of ANSWER is wrong
pub answers_wrong_keyword : faults answers_of ((codes "x") ∷ (codes "rules yes : any : any") ∷ (codes "editor 0 0 /a <kernel>") ∷ (codes "rule maybe : any : any") ∷ (codes "rule Yes : any : any") ∷ (codes "rule : any : any") ∷ (codes "rule retry 1 retry : any : any") ∷ (codes "rule retry 1 : any : any") ∷ (codes "rule retry 0 x") ∷ (codes "Detach 1") ∷ []) ≡ (Some (1, ScriptKind.Keyword) ∷ Some (1, ScriptKind.Keyword) ∷ Some (1, ScriptKind.Keyword) ∷ Some (1, ScriptKind.Keyword) ∷ Some (1, ScriptKind.Keyword) ∷ Some (1, ScriptKind.Keyword) ∷ Some (1, ScriptKind.Keyword) ∷ Some (1, ScriptKind.Keyword) ∷ Some (1, ScriptKind.Keyword) ∷ Some (1, ScriptKind.Keyword) ∷ [])
unfolding computed
answers_wrong_keyword = refl

-- N of `retry` is plain and below 256, that of `detach` below 2^64
pub answers_wrong_number : faults answers_of ((codes "rule retry 256 yes : any : any") ∷ (codes "rule retry x yes : any : any") ∷ (codes "rule retry yes : any : any") ∷ (codes "rule retry 01 no : any : any") ∷ (codes "rule retry 0x1 no") ∷ (codes "detach x") ∷ (codes "detach 18446744073709551616") ∷ (codes "detach -1") ∷ (codes "detach 1-1") ∷ (codes "detach 00 x") ∷ []) ≡ (Some (1, ScriptKind.Number) ∷ Some (1, ScriptKind.Number) ∷ Some (1, ScriptKind.Number) ∷ Some (1, ScriptKind.Number) ∷ Some (1, ScriptKind.Number) ∷ Some (1, ScriptKind.Number) ∷ Some (1, ScriptKind.Number) ∷ Some (1, ScriptKind.Number) ∷ Some (1, ScriptKind.Number) ∷ Some (1, ScriptKind.Number) ∷ [])
unfolding computed
answers_wrong_number = refl

-- a list word is no pattern, or `:` is a word of LINEWORDS
pub answers_wrong_word : faults answers_of ((codes "rule yes : \\q : any") ∷ (codes "rule yes : any : a\\") ∷ (codes "rule yes : any : :") ∷ (codes "rule yes : any : : any") ∷ (codes "rule yes : any : a : b") ∷ (codes "rule no : <kernel> \\{a : any") ∷ (codes "rule no : any \\- x") ∷ (codes "rule no : \\q") ∷ (codes "rule yes : any : any \\-") ∷ []) ≡ (Some (1, ScriptKind.Word) ∷ Some (1, ScriptKind.Word) ∷ Some (1, ScriptKind.Word) ∷ Some (1, ScriptKind.Word) ∷ Some (1, ScriptKind.Word) ∷ Some (1, ScriptKind.Word) ∷ Some (1, ScriptKind.Word) ∷ Some (1, ScriptKind.Word) ∷ Some (1, ScriptKind.Word) ∷ [])
unfolding computed
answers_wrong_word = refl

-- a second `detach`, whatever stands after it
pub answers_wrong_twice : faults answers_of ((codes "detach 1\ndetach 1") ∷ (codes "detach 1\n\ndetach x") ∷ (codes "detach 0\nrule yes : any : any\ndetach") ∷ []) ≡ (Some (2, ScriptKind.Twice) ∷ Some (3, ScriptKind.Twice) ∷ Some (3, ScriptKind.Twice) ∷ [])
unfolding computed
answers_wrong_twice = refl

-- a word is missing, a list is empty, another word stands where a `:` does, or there is one too
-- many
pub answers_wrong_arity : faults answers_of ((codes "rule") ∷ (codes "rule yes") ∷ (codes "rule yes any") ∷ (codes "rule yes :") ∷ (codes "rule yes : :") ∷ (codes "rule yes : : any") ∷ (codes "rule yes : : \\q") ∷ (codes "rule yes : any") ∷ (codes "rule yes : any :") ∷ (codes "rule yes : any : ") ∷ (codes "rule yes \\q : any") ∷ (codes "rule yes no : any : any") ∷ (codes "rule retry") ∷ (codes "rule retry 1") ∷ (codes "rule retry 1 yes") ∷ (codes "rule retry 1 yes no") ∷ (codes "detach") ∷ (codes "detach 1 x") ∷ (codes "detach 1 1") ∷ (codes "\n\nrule no : a b c\n") ∷ []) ≡ (Some (1, ScriptKind.Arity) ∷ Some (1, ScriptKind.Arity) ∷ Some (1, ScriptKind.Arity) ∷ Some (1, ScriptKind.Arity) ∷ Some (1, ScriptKind.Arity) ∷ Some (1, ScriptKind.Arity) ∷ Some (1, ScriptKind.Arity) ∷ Some (1, ScriptKind.Arity) ∷ Some (1, ScriptKind.Arity) ∷ Some (1, ScriptKind.Arity) ∷ Some (1, ScriptKind.Arity) ∷ Some (1, ScriptKind.Arity) ∷ Some (1, ScriptKind.Arity) ∷ Some (1, ScriptKind.Arity) ∷ Some (1, ScriptKind.Arity) ∷ Some (1, ScriptKind.Arity) ∷ Some (1, ScriptKind.Arity) ∷ Some (1, ScriptKind.Arity) ∷ Some (1, ScriptKind.Arity) ∷ Some (3, ScriptKind.Arity) ∷ [])
unfolding computed
answers_wrong_arity = refl

-- a leading word is wrong
pub schedule_wrong_keyword : faults (schedule_of 2 1) ((codes "x") ∷ (codes "trees 1") ∷ (codes "Tree 1") ∷ (codes "desks") ∷ (codes "attach") ∷ (codes "tree 1\n\n1") ∷ []) ≡ (Some (1, ScriptKind.Keyword) ∷ Some (1, ScriptKind.Keyword) ∷ Some (1, ScriptKind.Keyword) ∷ Some (1, ScriptKind.Keyword) ∷ Some (1, ScriptKind.Keyword) ∷ Some (3, ScriptKind.Keyword) ∷ [])
unfolding computed
schedule_wrong_keyword = refl

-- N is a plain number below 2^64
pub schedule_wrong_number : faults (schedule_of 2 1) ((codes "tree x") ∷ (codes "tree 01") ∷ (codes "editor 0x1") ∷ (codes "tree 18446744073709551616") ∷ (codes "editor -1") ∷ (codes "tree 1-1 x") ∷ []) ≡ (Some (1, ScriptKind.Number) ∷ Some (1, ScriptKind.Number) ∷ Some (1, ScriptKind.Number) ∷ Some (1, ScriptKind.Number) ∷ Some (1, ScriptKind.Number) ∷ Some (1, ScriptKind.Number) ∷ [])
unfolding computed
schedule_wrong_number = refl

-- N names none, also before an extra word
pub schedule_no_activity : faults (schedule_of 2 1) ((codes "tree 0") ∷ (codes "tree 3") ∷ (codes "tree 9 x") ∷ (codes "editor 0") ∷ (codes "editor 2") ∷ (codes "tree 4294967297") ∷ (codes "tree 18446744073709551615") ∷ []) ≡ (Some (1, ScriptKind.NoActivity) ∷ Some (1, ScriptKind.NoActivity) ∷ Some (1, ScriptKind.NoActivity) ∷ Some (1, ScriptKind.NoActivity) ∷ Some (1, ScriptKind.NoActivity) ∷ Some (1, ScriptKind.NoActivity) ∷ Some (1, ScriptKind.NoActivity) ∷ [])
unfolding computed
schedule_no_activity = refl

-- a word is missing, or there is one too many
pub schedule_wrong_arity : faults (schedule_of 2 1) ((codes "tree") ∷ (codes "editor") ∷ (codes "tree 1 2") ∷ (codes "editor 1 1") ∷ (codes "desk 1") ∷ (codes "desk desk") ∷ (codes "\n \ntree 2\ntree 2 \t 2") ∷ []) ≡ (Some (1, ScriptKind.Arity) ∷ Some (1, ScriptKind.Arity) ∷ Some (1, ScriptKind.Arity) ∷ Some (1, ScriptKind.Arity) ∷ Some (1, ScriptKind.Arity) ∷ Some (1, ScriptKind.Arity) ∷ Some (4, ScriptKind.Arity) ∷ [])
unfolding computed
schedule_wrong_arity = refl
