-- Which lines make a record.
use Rattle.std.specs.Prelude.{ℕ, ◌+◌, ◌-◌, ◌^◌, nat_lt, if◌then◌else◌, List, [], ◌∷◌, ◌++◌, length, Option, Some, None}
use Rattle.tm_word.specs.Prelude.{Text, begins_with_byte, words_of}
use Rattle.tm_log.specs.declared.gather.Lines.{Lines}
use Rattle.tm_log.specs.declared.gather.Gatherer.{Gatherer}
use Rattle.tm_log.specs.declared.gather.LineSort.{LineSort}

-- a line without words ends a record; one whose first word begins with `#` begins one
unfoldable pub sort_of : List Text → LineSort
sort_of [] = LineSort.Ends
sort_of (word ∷ words) = if begins_with_byte 35 word then LineSort.Begins else LineSort.GoesOn

-- the next number, which stays at the last one of 64 bits
abbrev pub next : ℕ → ℕ
next n = if nat_lt n (2 ^ 64 - 1) then n + 1 else n

-- nothing was read
abbrev pub no_lines : Gatherer
no_lines = record { lines = 0; records = 0; current = None }

-- a line begins a record, which ends the one before
abbrev pub begun : Gatherer → Text → Gatherer × Option Lines
begun s line = (
  record {
    lines = next s.lines;
    records = next s.records;
    current = Some (record {
      number = next s.records;
      line = next s.lines;
      texts = line ∷ [];
    });
  },
  s.current,
)

-- four lines of a record are kept, so that a long one is known
abbrev pub with_more : Lines → Text → Lines
with_more lines line =
    record lines {
      texts = if nat_lt (length lines.texts) 4 then lines.texts ++ line ∷ [] else lines.texts;
    }

-- a line goes on with the record that is current, or begins one
abbrev pub with_line_of : Gatherer → Option Lines → Text → Gatherer × Option Lines
with_line_of s None line = begun s line
with_line_of s (Some lines) line =
    (record s { lines = next s.lines; current = Some (with_more lines line) }, None)

abbrev pub with_line : Gatherer → Text → Gatherer × Option Lines
with_line s line = with_line_of s s.current line

-- one line more, and the record that it ended
abbrev pub gathered_as : LineSort → Gatherer → Text → Gatherer × Option Lines
gathered_as LineSort.Ends s line = (record s { lines = next s.lines; current = None }, s.current)
gathered_as LineSort.Begins s line = begun s line
gathered_as LineSort.GoesOn s line = with_line s line

abbrev pub gathered : Gatherer → Text → Gatherer × Option Lines
gathered s line = gathered_as (sort_of (words_of line)) s line
