-- Reading and printing the text of a run, both ways.
use Rattle.std.specs.Prelude.{◌≡◌, ℕ, ◌-◌, true, take, Ok, Err}
use Rattle.tm_word.specs.Prelude.{Text}
use Rattle.tm_rules.specs.Types.{Run}
use Rattle.tm_run.specs.RunText.{run_text}
use Rattle.tm_run.specs.Reading.{lines_of, run_of}
use Rattle.tm_run.specs.Written.{is_written}

-- a run that a text can write is read from its text
abbrev pub WrittenIsRead : Type 0
WrittenIsRead = (run : Run) → is_written run ≡ true → run_of (run_text run) ≡ Ok run

-- what is read is a run that a text can write, and the text is its own
abbrev pub ReadIsWritten : Type 0
ReadIsWritten =
    (text : Text) (run : Run) → run_of text ≡ Ok run
    → (is_written run ≡ true) × (run_text run ≡ text)

-- some run that a text can write has, in its text, as many first lines as this text has them
abbrev pub CanBegin : ℕ → Text → Type 0
CanBegin count text =
    (run : Run) × (is_written run ≡ true)
    × (take count (lines_of (run_text run)) ≡ take count (lines_of text))

-- a fault names the first line with which no such text can go on: one can begin as the lines before
-- it, none as they and this line
abbrev pub FaultIsFirst : Type 0
FaultIsFirst =
    (text : Text) (line : ℕ) → run_of text ≡ Err line
    → CanBegin (line - 1) text × ¬ (CanBegin line text)
