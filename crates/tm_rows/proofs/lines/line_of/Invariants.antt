use Rattle.std.proofs.Common.{◌+◌, ◌≤◌}
use Rattle.tm_rows.proofs.lines.line_of.Given as goal

-- there are no more lines than bytes so far
abbrev pub invariant-loop-byte : goal.invariant-loop-byte
invariant-loop-byte l = l.number ≤ l.byte-index + 1
