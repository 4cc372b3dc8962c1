use Rattle.std.proofs.Common.{◌≡◌}
use Rattle.tm_verify.proofs.judging.all_dues.Given as goal

-- the place is the look's
abbrev pub invariant-loop-on : goal.invariant-loop-on
invariant-loop-on l = l.place ≡ l.on-index
