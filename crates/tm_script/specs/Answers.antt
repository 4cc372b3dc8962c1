-- Answers: the book of rules by which a supervisor answers, and after how many answers it leaves.
use Rattle.std.specs.Prelude.{ℕ, ◌^◌, ◌&&◌, not, Bool, true, false, List, [], ◌∷◌, ◌++◌, take, drop, Some, None, Result, Ok, Err, if◌then◌else◌, codes, is_some}
use Rattle.std.specs.List.{prefix_len}
use Rattle.tm_word.specs.Prelude.{Pattern, Text, texts_equal, ◌>>=◌}
use Rattle.tm_pattern.specs.Reading.{pattern_of}
use Rattle.tm_rules.specs.Types.{Answer, Book, BookRule, ListWords, ScriptKind}
use Rattle.tm_line.specs.Lines.{is_last}
use Rattle.tm_script.specs.Steps.{kinded, word_at, number_at, ended}
use Rattle.tm_script.specs.Lines.{script_of}

-- ---- ANSWER

-- `yes` or `no`
unfoldable pub last_answer : Text → Result Answer ScriptKind
last_answer word =
    if texts_equal word (codes "yes") then Ok Answer.Yes
    else if texts_equal word (codes "no") then Ok Answer.No else Err ScriptKind.Keyword

-- `retry N` and `yes` or `no` after it: N retries, and then that answer
unfoldable pub retries_at : List Text → Result ((ℕ × Answer) × List Text) ScriptKind
retries_at words = do
  retries ← number_at 256 words
  last ← word_at last_answer retries.1
  Ok ((retries.0, last.0), last.1)

-- `yes` or `no` at once, or after retries
unfoldable pub answer_at : List Text → Result ((ℕ × Answer) × List Text) ScriptKind
answer_at [] = Err ScriptKind.Arity
answer_at (word ∷ words) =
    if texts_equal word (codes "retry") then retries_at words
    else (last_answer word >>= λ last. Ok ((0, last), words))

-- ---- lists of words

-- the word that ends ANSWER and the first list
abbrev pub is_colon : Text → Bool
is_colon word = texts_equal word (codes ":")

-- where it must stand, any other word is one too many
unfoldable pub colon_at : List Text → Result (List Text) ScriptKind
colon_at [] = Err ScriptKind.Arity
colon_at (word ∷ words) = if is_colon word then Ok words else Err ScriptKind.Arity

-- a word of a list is a pattern, and not `:`
unfoldable pub list_word : Text → Result Pattern ScriptKind
list_word word =
    if is_colon word then Err ScriptKind.Word else kinded ScriptKind.Word (pattern_of word)

-- a list: its patterns, and whether it takes words that are left
abbrev pub listed : List Pattern → Bool → ListWords
listed patterns any = record { patterns = patterns; any = any }

-- the patterns so far and those of these words; `any` as the last word takes the words that are
-- left
unfoldable pub list_after : List Pattern → List Text → Result ListWords ScriptKind
list_after patterns [] = Ok (listed patterns false)
list_after patterns (word ∷ words) =
    if is_last words && texts_equal word (codes "any") then Ok (listed patterns true)
    else (list_word word >>= λ pattern_. list_after (patterns ++ pattern_ ∷ []) words)

-- a list has one word or more
unfoldable pub list_of : List Text → Result ListWords ScriptKind
list_of [] = Err ScriptKind.Arity
list_of (word ∷ words) = list_after [] (word ∷ words)

-- how many words stand before the next `:`
abbrev pub colon_place : List Text → ℕ
colon_place words = prefix_len (λ word. not (is_colon word)) words

-- a list up to the next `:`, and the words after it
unfoldable pub list_at : List Text → Result (ListWords × List Text) ScriptKind
list_at words = do
  list ← list_of (take (colon_place words) words)
  rest ← colon_at (drop (colon_place words) words)
  Ok (list, rest)

-- ---- the file

-- no rule yet, and no number of answers
abbrev pub no_rules : Book
no_rules = record { rules = []; stop = None }

abbrev pub rule : ℕ × Answer → ListWords → ListWords → BookRule
rule answer domain line =
    record { retries = answer.0; last = answer.1; domain = domain; line = line }

-- `ANSWER : DOMAINWORDS : LINEWORDS`
unfoldable pub rule_of : List Text → Result BookRule ScriptKind
rule_of words = do
  answer ← answer_at words
  lists ← colon_at answer.1
  domain ← list_at lists
  line ← list_of domain.1
  Ok (rule answer.0 domain.0 line)

-- the number of answers, said once
abbrev pub with_stop : Book → ℕ → Book
with_stop book n = record book { stop = Some n }

unfoldable pub detach_line : Book → List Text → Result Book ScriptKind
detach_line book words =
    if is_some book.stop then Err ScriptKind.Twice
    else (number_at (2 ^ 64) words >>= λ n. ended (with_stop book n.0) n.1)

abbrev pub with_rule : Book → BookRule → Book
with_rule book one = record book { rules = book.rules ++ one ∷ [] }

-- `rule ANSWER : DOMAINWORDS : LINEWORDS`, or `detach N`
unfoldable pub answers_line : Book → Text → List Text → Result Book ScriptKind
answers_line book key words =
    if texts_equal key (codes "rule")
    then rule_of words >>= (λ one. Ok (with_rule book one))
    else if texts_equal key (codes "detach") then detach_line book words else Err ScriptKind.Keyword

-- the book that a text writes, or its first wrong line
unfoldable pub answers_of : Text → Result Book (ℕ × ScriptKind)
answers_of text = script_of answers_line no_rules text
