-- Schedules: whose turn it is, one activity a line.
use Rattle.std.specs.Prelude.{ℕ, ◌^◌, ◌==◌, ◌||◌, nat_lt, List, [], ◌∷◌, ◌++◌, Result, Ok, Err, if◌then◌else◌, codes}
use Rattle.tm_word.specs.Prelude.{Text, texts_equal, ◌>>=◌}
use Rattle.tm_rules.specs.Types.{ScriptKind, Turn}
use Rattle.tm_script.specs.Steps.{number_at, ended}
use Rattle.tm_script.specs.Lines.{script_of}
use Rattle.tm_script.specs.declared.schedule.Schedule.{Schedule}

-- one of so many that are there, numbered from 1
abbrev pub one_of : ℕ → ℕ → Result ℕ ScriptKind
one_of count n = if n == 0 || nat_lt count n then Err ScriptKind.NoActivity else Ok n

-- the number of one of so many, and nothing after it
unfoldable pub activity_of : ℕ → List Text → Result ℕ ScriptKind
activity_of count words = do
  number ← number_at (2 ^ 64) words
  n ← one_of count number.0
  ended n number.1

-- `tree N`, `editor N` or `desk`, which is lawful without a supervisor too
unfoldable pub turn_of : ℕ → ℕ → Text → List Text → Result Turn ScriptKind
turn_of trees editors key words =
    if texts_equal key (codes "tree")
    then activity_of trees words >>= (λ n. Ok (Turn.Tree n))
    else if texts_equal key (codes "editor")
    then activity_of editors words >>= (λ n. Ok (Turn.Editor n))
    else if texts_equal key (codes "desk") then ended Turn.Desk words else Err ScriptKind.Keyword

-- no turn yet, for so many trees and editors
abbrev pub no_turns : ℕ → ℕ → Schedule
no_turns trees editors = record { trees = trees; editors = editors; turns = [] }

-- one turn more
unfoldable pub schedule_line : Schedule → Text → List Text → Result Schedule ScriptKind
schedule_line schedule key words =
    turn_of schedule.trees schedule.editors key words
    >>= λ turn. Ok (record schedule { turns = schedule.turns ++ turn ∷ [] })

-- the turns that a text writes for so many trees and editors, or its first wrong line
unfoldable pub schedule_of : ℕ → ℕ → Text → Result (List Turn) (ℕ × ScriptKind)
schedule_of trees editors text =
    script_of schedule_line (no_turns trees editors) text >>= λ schedule. Ok schedule.turns
