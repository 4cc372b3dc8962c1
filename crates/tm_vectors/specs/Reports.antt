-- What is said of a table: the rows that differ, and how many agree.
use Rattle.std.specs.Prelude.{ℕ, ◌+◌, ◌-◌, ◌==◌, Bool, true, false, if◌then◌else◌, List, [], ◌∷◌, ◌++◌, length, take, slice_get, codes, unwrap_or, decimal}
use Rattle.std.specs.List.{filter}
use Rattle.tm_word.specs.Prelude.{Text, joined, lines_of, pieces, texts_equal}
use Rattle.tm_vectors.specs.declared.table.Table.{Table}
use Rattle.tm_vectors.specs.declared.rows.Judgement.{Judgement}
use Rattle.tm_vectors.specs.declared.rows.Judgement.TheVariants.{NoRow, Agrees, Differs}
use Rattle.tm_vectors.specs.Answers.{answer}

abbrev pub is_agreeing : Judgement → Bool
is_agreeing NoRow = false
is_agreeing Agrees = true
is_agreeing Differs = false

abbrev pub is_differing : Judgement → Bool
is_differing NoRow = false
is_differing Agrees = false
is_differing Differs = true

-- the name that a table's file and lines have
abbrev pub table_name : Table → Text
table_name Table.AclLines = codes "acl_lines"
table_name Table.ExceptionLines = codes "exception_lines"
table_name Table.Transitions = codes "transitions"
table_name Table.PatternVectors = codes "pattern_vectors"
table_name Table.PatternValidity = codes "pattern_validity"

-- Rows

-- the fields of a row, with a tab between each two
abbrev pub fields_of : Text → List Text
fields_of row = pieces 9 row

-- the last field is what the real TOMOYO answered
abbrev pub recorded : List Text → Text
recorded fields = unwrap_or (slice_get fields (length fields - 1)) []

-- the fields before it are the question
abbrev pub question : List Text → List Text
question fields = take (length fields - 1) fields

-- our answer to the question is the recorded one
abbrev pub is_answered : Table → List Text → Bool
is_answered table fields = texts_equal (answer table (question fields)) (recorded fields)

-- an empty line is no row
unfoldable pub judgement : Table → Text → Judgement
judgement table line = if length line == 0 then NoRow else (if is_answered table (fields_of line) then Agrees else Differs)

-- how many of these lines are rows that agree
abbrev pub agreeing : Table → List Text → ℕ
agreeing table lines = length (filter (λ line. is_agreeing (judgement table line)) lines)

-- how many of these lines are rows that differ
abbrev pub differing : Table → List Text → ℕ
differing table lines = length (filter (λ line. is_differing (judgement table line)) lines)

-- Reports

abbrev pub line_place : Table → ℕ → Text
line_place table number = table_name table ++ (codes " line " ++ (decimal number ++ codes ": "))

abbrev pub both_answers : Text → Text → Text
both_answers wanted answered = codes ": wanted " ++ (wanted ++ (codes ", got " ++ (answered ++ codes "\n")))

-- the line that is said of a row that differs: where it stands, its question, what was recorded and
-- what we answer
abbrev pub difference : Table → ℕ → List Text → Text → Text
difference table number fields answered = line_place table number ++ (joined (question fields) ++ both_answers (recorded fields) answered)

-- what is said of the line with this number: nothing but where it is a row that differs
abbrev pub said_of : Judgement → Table → ℕ → List Text → Text
said_of NoRow table number fields = []
said_of Agrees table number fields = []
said_of Differs table number fields = difference table number fields (answer table (question fields))

unfoldable pub said : Table → ℕ → Text → Text
said table number line = said_of (judgement table line) table number (fields_of line)

-- what is said of lines of which the first has this number
abbrev pub all_said : Table → ℕ → List Text → Text
all_said table number [] = []
all_said table number (line ∷ lines) = said table number line ++ all_said table (number + 1) lines

-- the line of counts
abbrev pub counts : Table → ℕ → ℕ → Text
counts table agree differ = table_name table ++ (codes ": " ++ (decimal agree ++ (codes " rows agree, " ++ (decimal differ ++ codes " differ\n"))))

-- what is said of each line, by its number from 1, and how many rows agree and differ
abbrev pub report_of : Table → List Text → Text
report_of table lines = all_said table 1 lines ++ counts table (agreeing table lines) (differing table lines)

-- the whole report on the text of a table's file
unfoldable pub report : Table → Text → Text
report table text = report_of table (lines_of text)
