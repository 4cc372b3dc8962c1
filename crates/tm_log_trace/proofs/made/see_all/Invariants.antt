use Rattle.std.proofs.Common.{◌≡◌, drop}
use Rattle.tm_log_trace.specs.Making.{nothing_made}
use Rattle.tm_log_trace.specs.Made.{all_seen}
use Rattle.tm_log_trace.proofs.made.see_all.Given as goal

-- from here on it gives what the whole gives
abbrev pub invariant-loop-one : goal.invariant-loop-one
invariant-loop-one l = all_seen l.maker (drop l.one-index l.used) ≡ all_seen nothing_made l.used
