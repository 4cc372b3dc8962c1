use Rattle.std.proofs.Common.{◌≡◌, ◌++◌, drop}
use Rattle.tm_log_trace.specs.Made.{lines_text}
use Rattle.tm_log_trace.proofs.report.push_lines.Given as goal

-- what is written and what is still to be written are all
abbrev pub invariant-loop-left : goal.invariant-loop-left
invariant-loop-left l = l.out.items ++ lines_text l.rest (drop l.left-index l.left_out) ≡ l.initial.out.items ++ lines_text l.notes l.left_out
