-- The records of an audit file: three lines of one byte or more, and an empty line.
use Rattle.std.specs.Prelude.{◌≡◌, ◌↔◌, ℕ, ◌+◌, ◌==◌, ◌&&◌, not, Bool, true, false, List, [], ◌∷◌, ◌++◌, take, drop, Option, Some, None, Result, Ok, Err, if◌then◌else◌}
use Rattle.std.specs.List.{flat_map, list_all}
use Rattle.tm_word.specs.Prelude.{Text, is_empty, lines_of, ◌>>=◌}
use Rattle.tm_sort.specs.declared.record.Record.{Record}
use Rattle.tm_sort.specs.declared.record.RecordFault.{RecordFault}
use Rattle.tm_sort.specs.declared.record.Begun.{Begun}
use Rattle.tm_sort.specs.declared.record.Reading.{Reading}

-- the line of a fault, from 1; want of memory has none
abbrev pub record_cause : RecordFault → Option ℕ
record_cause RecordFault.NoMemory = None
record_cause (RecordFault.Line number) = Some number

-- a record as it is written
abbrev pub record_text : Record → Text
record_text item = item.header ++ 10 ∷ [] ++ item.domain ++ 10 ∷ [] ++ item.line ++ 10 ∷ 10 ∷ []

-- records one after another
abbrev pub records_text : List Record → Text
records_text items = flat_map record_text items

-- ---- reading, line by line

abbrev pub record_of : Text → Text → Text → Record
record_of header domain line = record { header = header; domain = domain; line = line }

abbrev pub read_so : List Record → Begun → Reading
read_so records begun = record { records = records; begun = begun }

-- no line yet
abbrev pub no_lines : Reading
no_lines = read_so [] Begun.Nothing

-- a line that has a byte
abbrev pub full_line : ℕ → Text → Result Text ℕ
full_line number [] = Err number
full_line number (b ∷ line) = Ok (b ∷ line)

-- an empty line ends a record
abbrev pub ending_line : ℕ → List Record → Record → Text → Result Reading ℕ
ending_line number records item [] = Ok (read_so (records ++ item ∷ []) Begun.Nothing)
ending_line number records item (b ∷ line) = Err number

-- the line of this number after what has been read so far, or its number where it can't stand there
unfoldable pub line_after : ℕ → Reading → Text → Result Reading ℕ
line_after number so_far line = go so_far.begun
  where
    go : Begun → Result Reading ℕ
    go Begun.Nothing = full_line number line >>= λ header. Ok (read_so so_far.records (Begun.Header header))
    go (Begun.Header header) = full_line number line >>= λ domain. Ok (read_so so_far.records (Begun.Domain header domain))
    go (Begun.Domain header domain) = full_line number line >>= λ request. Ok (read_so so_far.records (Begun.Line header domain request))
    go (Begun.Line header domain request) = ending_line number so_far.records (record_of header domain request) line

-- after the last byte 10 nothing stands, and no record is cut there
unfoldable pub last_line : ℕ → Reading → Text → Result (List Record) ℕ
last_line number so_far line = if not (is_empty line) then Err number else go so_far.begun
  where
    go : Begun → Result (List Record) ℕ
    go Begun.Nothing = Ok so_far.records
    go (Begun.Header header) = Err number
    go (Begun.Domain header domain) = Err number
    go (Begun.Line header domain request) = Err number

-- these lines, the first with this number, after what has been read so far; byte 10 ends each but
-- the last
unfoldable pub records_from : ℕ → List Text → Reading → Result (List Record) ℕ
records_from number [] so_far = Err number
records_from number (line ∷ lines) so_far =
    if is_empty lines then last_line number so_far line else (line_after number so_far line >>= λ read. records_from (number + 1) lines read)

-- the records of a text, or the first line that can't stand there
abbrev pub records_of : Text → Result (List Record) ℕ
records_of text = records_from 1 (lines_of text) no_lines

-- ---- the laws

-- a line of one byte or more
abbrev pub is_full : Text → Bool
is_full line = not (is_empty line) && list_all (λ b. not (b == 10)) line

-- its three lines are such
unfoldable pub is_record : Record → Bool
is_record item = is_full item.header && (is_full item.domain && is_full item.line)

-- what is read is the text of records, and the text of records is read as them
abbrev pub RecordsAreText : Type 0
RecordsAreText = (text : Text) (items : List Record) → (records_of text ≡ Ok items) ↔ ((records_text items ≡ text) × (list_all is_record items ≡ true))

-- lines that byte 10 ends, the first with this number, after what has been read so far
unfoldable pub lines_read : ℕ → List Text → Reading → Result Reading ℕ
lines_read number [] so_far = Ok so_far
lines_read number (line ∷ lines) so_far = line_after number so_far line >>= λ read. lines_read (number + 1) lines read

-- a line can't stand after what has been read so far: one that byte 10 ends, or the last one
abbrev pub CannotStand : Bool → ℕ → Reading → Text → Type 0
CannotStand true number so_far line = last_line number so_far line ≡ Err number
CannotStand false number so_far line = line_after number so_far line ≡ Err number

-- the line of this number, from 1, can't stand after the lines before it, which are read
pub record FirstBad (text : Text) (number : ℕ) : Type 0 where
  pub place : ℕ
  pub numbers : number ≡ place + 1
  pub before : Reading
  pub read : lines_read 1 (take place (lines_of text)) no_lines ≡ Ok before
  pub line : Text
  pub rest : List Text
  pub there : drop place (lines_of text) ≡ line ∷ rest
  pub bad : CannotStand (is_empty rest) number before line

-- a fault is the first line that can't stand there
abbrev pub RecordFaultIsFirst : Type 0
RecordFaultIsFirst = (text : Text) (number : ℕ) → records_of text ≡ Err number → FirstBad text number
