-- The records of a log, from its bytes.
use Rattle.std.specs.Prelude.{ℕ, ◌+◌, ◌-◌, ◌^◌, ◌==◌, ◌||◌, nat_lt, Bool, if◌then◌else◌, List, [], ◌∷◌, ◌++◌, length, min, Option, Some, None, Result, Ok, Err}
use Rattle.tm_word.specs.Prelude.{Text}
use Rattle.tm_rules.specs.Types.{Request}
use Rattle.tm_trace.specs.Printing.{request_text, attributes_text}
use Rattle.tm_log.specs.declared.faults.Reason.{Reason}
use Rattle.tm_log.specs.declared.gather.Lines.{Lines}
use Rattle.tm_log.specs.declared.record.Record.{Record}
use Rattle.tm_log.specs.declared.gather.Gatherer.{Gatherer}
use Rattle.tm_log.specs.Gathering.{no_lines, gathered}
use Rattle.tm_log.specs.Records.{record_of}
use Rattle.tm_log.specs.declared.log.Log.{Log}
use Rattle.tm_log.specs.declared.log.Source.{Source}

-- no record yet
abbrev pub no_log : Log
no_log = record { used = []; left_out = []; records = 0; size = 0 }

-- how long a request and its attributes are in a trace
abbrev pub size_of : Request → ℕ
size_of request = length (request_text request ++ attributes_text request)

-- a sum that stays within 64 bits
abbrev pub sum_of : ℕ → ℕ → ℕ
sum_of m n = min (m + n) (2 ^ 64 - 1)

-- these records are more than a trace holds: 200,000 lines, 16,777,216 bytes
abbrev pub is_full : Log → Bool
is_full log = nat_lt 200000 (length log.used) || nat_lt 16777216 log.size

-- one record more, which can be used
abbrev pub with_used : Log → Source → Record → Log
with_used log source one = record log {
  used = log.used ++ record { source = source; «record» = one; size = size_of one.request } ∷ [];
  records = source.number;
  size = sum_of log.size (size_of one.request);
}

-- and one that is left out
abbrev pub with_left : Log → Source → Reason → Log
with_left log source reason =
    record log {
      left_out = log.left_out ++ record { source = source; reason = reason } ∷ [];
      records = source.number;
    }

-- a record is used, or left out for the first reason that fits
abbrev pub taken_as : Log → Source → Result Record Reason → Log
taken_as log source (Ok one) = with_used log source one
taken_as log source (Err reason) = with_left log source reason

-- once there are more than a trace holds no further one is looked at
unfoldable pub taken : Log → Lines → Log
taken log lines =
    if is_full log then log
    else taken_as log (record { number = lines.number; line = lines.line }) (record_of lines.texts)

abbrev pub taken_if : Log → Option Lines → Log
taken_if log None = log
taken_if log (Some lines) = taken log lines

-- Bytes, in whatever parts they come

-- the lines that were read, the bytes of the line that isn't ended, and the log so far
pub record Reading : Type 0 where
  pub gatherer : Gatherer
  pub line : Text
  pub log : Log

abbrev pub nothing_read : Reading
nothing_read = record { gatherer = no_lines; line = []; log = no_log }

-- byte 10 or byte 0
abbrev pub ends_line : ℕ → Bool
ends_line b = b == 10 || b == 0

-- the line ends here
abbrev pub with_end : Reading → Reading
with_end s =
    record {
      gatherer = (gathered s.gatherer s.line).0;
      line = [];
      log = taken_if s.log (gathered s.gatherer s.line).1;
    }

abbrev pub with_byte : Reading → ℕ → Reading
with_byte s b = record s { line = s.line ++ b ∷ [] }

-- bytes more
abbrev pub fed : Reading → List ℕ → Reading
fed s [] = s
fed s (b ∷ bytes) = fed (if ends_line b then with_end s else with_byte s b) bytes

-- no byte comes after: the last line and the last record end
abbrev pub finished : Reading → Log
finished s = taken_if (with_end s).log (with_end s).gatherer.current

-- the log of these bytes
abbrev pub log_of : List ℕ → Log
log_of bytes = finished (fed nothing_read bytes)
