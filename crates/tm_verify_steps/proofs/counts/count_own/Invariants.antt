use Rattle.std.proofs.Common.{◌≡◌, drop}
use Rattle.tm_verify_steps.specs.Counting.{counted}
use Rattle.tm_verify_steps.proofs.counts.count_own.Given as goal

-- with those from here on it is what all come to
abbrev pub invariant-loop-number : goal.invariant-loop-number
invariant-loop-number l = counted (drop l.number-index l.own) l.counts.items ≡ counted l.own l.initial.counts.items
