use Rattle.std.proofs.Common.{◌≡◌}
use Rattle.tm_log_trace.specs.Made.{taken_all}
use Rattle.tm_log_trace.proofs.made.take_all.Given as goal

-- those so far are taken
abbrev pub invariant-loop-one : goal.invariant-loop-one
invariant-loop-one l = l.all ≡ taken_all l.initial.all l.yielded
