use Rattle.std.proofs.Common.{◌≡◌, drop}
use Rattle.tm_legal.specs.Prelude.{last_from, last_number}
use Rattle.tm_verify_notes.proofs.sums.last_number.Given as goal

-- of those from here on, or this one, it is the last of all
abbrev pub invariant-loop-number : goal.invariant-loop-number
invariant-loop-number l = last_from l.last (drop l.number-index l.own) ≡ last_number l.own
