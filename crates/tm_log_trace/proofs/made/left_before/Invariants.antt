use Rattle.std.proofs.Common.{◌≡◌, ◌++◌, drop}
use Rattle.tm_log_trace.specs.Made.{left_before}
use Rattle.tm_log_trace.proofs.made.left_before.Given as goal

-- those so far, and what is kept of the others, are what is kept of all
abbrev pub invariant-loop-left : goal.invariant-loop-left
invariant-loop-left l = l.before ++ left_before (drop l.left-index l.left_out) l.cut ≡ left_before l.left_out l.cut
