-- Reading a header word by word: fields of the form NAME=VALUE.
use Rattle.std.specs.Prelude.{ℕ, ◌^◌, ◌==◌, Bool, false, if◌then◌else◌, List, [], ◌∷◌, Option, Some, None, Result, Ok, Err}
use Rattle.tm_word.specs.Prelude.{Text, Word, after, spelled_word, texts_equal, ◌>>=◌}
use Rattle.tm_number.specs.Numbers.{plain_of}
use Rattle.tm_rules.specs.Types.{LineKind}
use Rattle.tm_line.specs.Lines.{or_kind, word_at}
use Rattle.tm_cond.specs.Attributes.{quoted}
use Rattle.tm_trace.specs.Processes.{not_zero}

-- this word stands next
abbrev pub stands : Text → List Text → Bool
stands keyword [] = false
stands keyword (word ∷ words) = texts_equal word keyword

-- a value, where the word has the name in front
abbrev pub after_front : {A : Type 0} → (Text → Result A LineKind) → Option Text → Result A LineKind
after_front read None = Err LineKind.Keyword
after_front read (Some text) = read text

-- a plain number below a limit
abbrev pub plain_text : ℕ → Text → Result ℕ LineKind
plain_text limit text = or_kind LineKind.Number (plain_of limit text)

-- NAME=N
abbrev pub plain_field : Text → ℕ → Text → Result ℕ LineKind
plain_field front limit word = after_front (plain_text limit) (after front word)

abbrev pub number_at : Text → ℕ → List Text → Result (ℕ × List Text) LineKind
number_at front limit words = word_at (plain_field front limit) words

-- an id: below 2^32
abbrev pub id_at : Text → List Text → Result (ℕ × List Text) LineKind
id_at front words = number_at front (2 ^ 32) words

-- a pid of Linux or 0: at most 4,194,304
abbrev pub parent_pid_at : Text → List Text → Result (ℕ × List Text) LineKind
parent_pid_at front words = number_at front 4194305 words

unfoldable pub pid_at : Text → List Text → Result (ℕ × List Text) LineKind
pid_at front words = do
  read ← parent_pid_at front words
  pid ← not_zero read.0
  Ok (pid, read.1)

unfoldable pub pid_text : Text → Result ℕ LineKind
pid_text text = plain_text 4194305 text >>= not_zero

-- a spelled word in double quotes
unfoldable pub quoted_word : Text → Result Word LineKind
quoted_word text = quoted text >>= λ inner. or_kind LineKind.Condition (spelled_word inner)

-- NAME="WORD"
abbrev pub quoted_field : Text → Text → Result Word LineKind
quoted_field front word = after_front quoted_word (after front word)

abbrev pub quoted_at : Text → List Text → Result (Word × List Text) LineKind
quoted_at front words = word_at (quoted_field front) words
