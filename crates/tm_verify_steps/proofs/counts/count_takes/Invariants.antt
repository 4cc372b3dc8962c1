use Rattle.std.proofs.Common.{◌≡◌, drop}
use Rattle.tm_legal.specs.Prelude.{own_numbers}
use Rattle.tm_verify_steps.specs.Counting.{counted}
use Rattle.tm_verify_steps.proofs.counts.count_takes.Given as goal

-- with those from here on it is what all come to
abbrev pub invariant-loop-taken : goal.invariant-loop-taken
invariant-loop-taken l = counted (own_numbers (drop l.taken-index l.takes)) l.counts.items ≡ counted (own_numbers l.takes) l.initial.counts.items
