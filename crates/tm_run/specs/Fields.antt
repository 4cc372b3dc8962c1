-- The fields of a line of a run, each one word. A word that a field can't have is read as some
-- value all the same: what is read counts only where its printed line is the line that was read.
use Rattle.std.specs.Prelude.{ℕ, ◌^◌, if◌then◌else◌, List, [], ◌∷◌, codes, map, Option, Some, None}
use Rattle.tm_word.specs.Prelude.{Text, of_word, or_else, pieces, texts_equal}
use Rattle.tm_rules.specs.Types.{Answered, EntryPlace, FileKind, Heard, LearnReply, Mode, Move, Reason, learn_replies, learn_text, mode_text, modes, policies, policy_text}
use Rattle.tm_run.specs.RunText.{reason_text, answered_text}
use Rattle.tm_number.specs.Numbers.{plain_of}

-- the number that was read, and 0 where none was
abbrev pub or_zero : Option ℕ → ℕ
or_zero (Some number) = number
or_zero None = 0

-- a plain number below a limit
unfoldable pub number_of : ℕ → Text → ℕ
number_of limit word = or_zero (plain_of limit word)

-- a number of 8 bits
abbrev pub u8_of : Text → ℕ
u8_of = number_of 256

-- a number of 32 bits
abbrev pub u32_of : Text → ℕ
u32_of = number_of (2 ^ 32)

-- a number of 64 bits
abbrev pub u64_of : Text → ℕ
u64_of = number_of (2 ^ 64)

-- a mode's word; any other, as `none` of a manual transition, for none
unfoldable pub mode_of : Text → Option Mode
mode_of word = of_word mode_text modes word

-- the reasons that have no place
abbrev pub reasons : List Reason
reasons =
    Reason.Disabled ∷ Reason.Permissive ∷ Reason.Quota ∷ Reason.Learn ∷ Reason.Ask
    ∷ Reason.NoEntry ∷ Reason.NotReady ∷ Reason.NoManual ∷ []

-- the word of a reason without a place
unfoldable pub case_of : Text → Reason
case_of word = or_else (of_word reason_text reasons word) Reason.NoManual

-- the pieces of a reason's word: the word alone, or an entry's place after a colon, or its group
-- and place
abbrev pub reason_in : List Text → Reason
reason_in [] = Reason.NoManual
reason_in (word ∷ []) = case_of word
reason_in (word ∷ place ∷ []) = Reason.Entry (EntryPlace.Own (u32_of place))
reason_in (word ∷ group ∷ place ∷ []) = Reason.Entry (EntryPlace.Acl (u8_of group) (u32_of place))
reason_in (word ∷ group ∷ place ∷ other ∷ others) = Reason.NoManual

-- a reason's word, cut at its colons
unfoldable pub reason_of : Text → Reason
reason_of word = reason_in (pieces 58 word)

-- a move's word
unfoldable pub way_of : Text → Move
way_of word =
    if texts_equal word (codes "stay") then Move.Stay
    else (if texts_equal word (codes "make") then Move.Make else Move.Fail)

-- the pieces of a move's word: the word alone, or a live domain's number after a colon
abbrev pub move_in : List Text → Move
move_in [] = Move.Fail
move_in (word ∷ []) = way_of word
move_in (word ∷ domain ∷ []) = Move.Enter (u32_of domain)
move_in (word ∷ domain ∷ other ∷ others) = Move.Fail

-- a move's word, cut at its colons
unfoldable pub move_of : Text → Move
move_of word = move_in (pieces 58 word)

-- numbers between commas, and `-` for none
unfoldable pub numbers_of : Text → List ℕ
numbers_of word = if texts_equal word (codes "-") then [] else map u64_of (pieces 44 word)

-- what may become of a query
abbrev pub answers : List Answered
answers = Answered.Yes ∷ Answered.No ∷ Answered.Retry ∷ Answered.Detached ∷ []

-- what became of the query; any other word, as `nobody` where no supervisor was attached, for none
unfoldable pub answer_of : Text → Option Answered
answer_of word = of_word answered_text answers word

-- an answer and a version
abbrev pub heard : Option Answered → ℕ → Heard
heard answer version = record { answer = answer; version = version }

-- an answer and a version; anything else for none
abbrev pub heard_in : List Text → Option Heard
heard_in [] = None
heard_in (word ∷ []) = None
heard_in (answer ∷ version ∷ []) = Some (heard (answer_of answer) (u64_of version))
heard_in (answer ∷ version ∷ other ∷ others) = None

-- what was heard, cut at its `@`
unfoldable pub heard_of : Text → Option Heard
heard_of word = heard_in (pieces 64 word)

-- what became of a learned line
unfoldable pub reply_of : Text → LearnReply
reply_of word = or_else (of_word learn_text learn_replies word) LearnReply.Mode

-- the name of a policy file
unfoldable pub file_of : Text → FileKind
file_of word = or_else (of_word policy_text policies word) FileKind.Manager
