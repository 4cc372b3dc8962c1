-- What reading the text of a run gives.
use Rattle.std.specs.Prelude.{ℕ, ◌+◌, ◌^◌, ◌==◌, nat_lt, Bool, true, false, ◌||◌, ◌&&◌, if◌then◌else◌, List, [], ◌∷◌, ◌++◌, length, codes, Option, Some, None, Result, Ok, Err}
use Rattle.tm_word.specs.Prelude.{Text, spelled_word, texts_equal, words_of}
use Rattle.tm_rules.specs.Types.{Look, Reply, Run, RunFault, Step, Take}
use Rattle.tm_run.specs.declared.reading.Reading.{Reading}
use Rattle.tm_run.specs.Steps.{step_line}
use Rattle.tm_run.specs.RunText.{take_line, look_text, audit_line}
use Rattle.tm_run.specs.Fields.{u32_of, u64_of, mode_of, reason_of, move_of, numbers_of, heard_of}
use Rattle.tm_run.specs.StepWords.{step_of}

-- the line of a fault; want of memory has none
abbrev pub run_cause : RunFault → Option ℕ
run_cause RunFault.NoMemory = None
run_cause (RunFault.BadLine line) = Some line

-- ---- what the words of a line say

-- a take before its first look
abbrev pub take_begun : ℕ → ℕ → ℕ → Bool → Take
take_begun pid before after granted =
    record {
      pid = pid;
      before = before;
      after = after;
      granted = granted;
      looks = [];
      audit = None;
    }

-- `take`, a number, a process, two domains and an answer
unfoldable pub take_of : List Text → Option Take
take_of (first ∷ number ∷ pid ∷ before ∷ after ∷ answer ∷ []) =
    Some
    (take_begun (u32_of pid) (u32_of before) (u32_of after) (texts_equal answer (codes "granted")))
take_of _ = None

-- `look`, a version, a mode, a reason, a move, numbers of steps, and what was heard
unfoldable pub look_of : List Text → Option Look
look_of (first ∷ version ∷ mode ∷ reason ∷ move ∷ own ∷ word ∷ []) =
    Some
    (record {
      version = u64_of version;
      mode = mode_of mode;
      reason = reason_of reason;
      step = move_of move;
      own = numbers_of own;
      heard = heard_of word;
    })
look_of _ = None

-- `audit`, and `-` or a spelled word, which isn't empty
unfoldable pub audit_of : List Text → Option Text
audit_of (first ∷ word ∷ []) =
    if texts_equal word (codes "-") || texts_equal word [] then None else spelled_word word
audit_of _ = None

-- ---- one line more

-- one more of these has a number of 64 bits
abbrev pub has_number : ℕ → Bool
has_number count = nat_lt (count + 1) (2 ^ 64)

-- a step counts where its line is this one
abbrev pub with_step : Reading → Text → Option (Step × Reply) → Option Reading
with_step reading line None = None
with_step reading line (Some pair) =
    if has_number (length reading.steps)
    && texts_equal (step_line (length reading.steps + 1) pair) line
    then Some (record reading { steps = reading.steps ++ pair ∷ [] }) else None

-- a take begins where its first line is this one
abbrev pub with_take : Reading → Text → Option Take → Option Reading
with_take reading line None = None
with_take reading line (Some take) =
    if has_number (length reading.takes)
    && texts_equal (take_line (length reading.takes + 1) take) line
    then Some (record reading { begun = Some take })
    else None

-- a look of the take that is begun counts where its line is this one
abbrev pub with_look : Reading → Take → Text → Option Look → Option Reading
with_look reading take line None = None
with_look reading take line (Some look) =
    if texts_equal (look_text look) line
    then Some (record reading { begun = Some (record take { looks = take.looks ++ look ∷ [] }) })
    else None

-- the take that is begun ends where its audit line is this one
abbrev pub with_audit : Reading → Take → Text → Option Text → Option Reading
with_audit reading take line audit =
    if texts_equal (audit_line audit) line
    then Some (record reading { takes = reading.takes ++ record take { audit = audit } ∷ [] })
    else None

-- no take was read so far
abbrev pub is_empty : List Take → Bool
is_empty [] = true
is_empty (take ∷ takes) = false

-- the first word is this one
abbrev pub starts : Text → List Text → Bool
starts keyword [] = false
starts keyword (word ∷ words) = texts_equal word keyword

-- between takes: the first line of a take, or a step before all takes
abbrev pub outside : Reading → Text → List Text → Option Reading
outside reading line words =
    if starts (codes "take") words then with_take reading line (take_of words)
    else (if is_empty reading.takes then with_step reading line (step_of words) else None)

-- within a take: its audit line, or a look
abbrev pub within : Reading → Take → Text → List Text → Option Reading
within reading take line words =
    if starts (codes "audit") words then with_audit reading take line (audit_of words)
    else with_look reading take line (look_of words)

-- what has been read without the take that is begun
abbrev pub closed : Reading → Reading
closed reading = record reading { begun = None }

-- outside a take, or within the one that is begun
abbrev pub read_in : Reading → Option Take → Text → List Text → Option Reading
read_in reading None line words = outside (closed reading) line words
read_in reading (Some take) line words = within (closed reading) take line words

-- what has been read with this line more, where it can stand here
unfoldable pub line_read : Reading → Text → Option Reading
line_read reading line = read_in reading reading.begun line (words_of line)

-- ---- all lines

-- one more byte in front of the first line
abbrev pub onto_line : ℕ → List Text → List Text
onto_line byte [] = (byte ∷ []) ∷ []
onto_line byte (line ∷ lines) = (byte ∷ line) ∷ lines

-- the lines of a text, each with the byte 10 that ends it; the last one may lack it
unfoldable pub lines_of : Text → List Text
lines_of [] = []
lines_of (byte ∷ text) =
    if byte == 10 then (byte ∷ []) ∷ lines_of text else onto_line byte (lines_of text)

-- nothing but the line `run 1` has been read
abbrev pub fresh : Reading
fresh = record { steps = []; takes = []; begun = None }

-- the run that was read, where the text may end here; else a line is missing
abbrev pub run_at : ℕ → Reading → Option Take → Result Run ℕ
run_at number reading None = Ok (record { steps = reading.steps; takes = reading.takes })
run_at number reading (Some take) = Err number

-- a line that can't stand is named by its number
abbrev pub go_on : ℕ → Option Reading → (Reading → Result Run ℕ) → Result Run ℕ
go_on number None more = Err number
go_on number (Some reading) more = more reading

-- the lines from the one with this number on
abbrev pub run_from : ℕ → Reading → List Text → Result Run ℕ
run_from number reading [] = run_at number reading reading.begun
run_from number reading (line ∷ lines) =
    go_on number (line_read reading line) (λ next. run_from (number + 1) next lines)

-- the first line is `run 1`
abbrev pub run_in : List Text → Result Run ℕ
run_in [] = Err 1
run_in (line ∷ lines) = if texts_equal line (codes "run 1\n") then run_from 2 fresh lines else Err 1

-- the run that a text is, or the first line with which no run's text can go on, from 1: one past
-- the last where the text ends too early
unfoldable pub run_of : Text → Result Run ℕ
run_of text = run_in (lines_of text)
