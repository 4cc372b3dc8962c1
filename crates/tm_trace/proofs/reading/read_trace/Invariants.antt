use Rattle.std.proofs.Common.{◌≡◌, ◌+◌, ◌≤◌, length}
use Rattle.tm_word.specs.Prelude.{lines_of}
use Rattle.tm_trace.specs.Reading.{trace_from, trace_of}
use Rattle.tm_trace.proofs.reading.read_trace.Given as goal

-- from here on it gives what the whole gives
abbrev pub invariant-loop-line : goal.invariant-loop-line
invariant-loop-line l = record {
  goes_on : trace_from l.number l.trees (lines_of l.rest) ≡ trace_of l.bytes;
  counted : l.number + length l.rest ≤ length l.bytes + 1;
}

abbrev pub decreases-loop-line : goal.decreases-loop-line
decreases-loop-line l = length l.rest
