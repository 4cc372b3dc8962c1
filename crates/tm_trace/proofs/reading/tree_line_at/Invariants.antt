use Rattle.std.proofs.Common.{◌≡◌, ◌+◌, ◌≤◌, length}
use Rattle.tm_word.specs.Prelude.{lines_of}
use Rattle.tm_trace.specs.Reading.{tree_line_from, tree_line_at}
use Rattle.tm_trace.proofs.reading.tree_line_at.Given as goal

-- from here on it gives what the whole gives
abbrev pub invariant-loop-line : goal.invariant-loop-line
invariant-loop-line l = record {
  goes_on : tree_line_from l.number l.left (lines_of l.rest) ≡ tree_line_at l.bytes l.place;
  counted : l.number + length l.rest ≤ length l.bytes + 1;
}

abbrev pub decreases-loop-line : goal.decreases-loop-line
decreases-loop-line l = length l.rest
