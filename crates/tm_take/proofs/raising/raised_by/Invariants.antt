use Rattle.std.proofs.Common.{◌≡◌, max, drop}
use Rattle.tm_legal.specs.Prelude.{raised}
use Rattle.tm_take.proofs.raising.raised_by.Given as goal

-- with the numbers from here on it is raised by all of them
abbrev pub invariant-loop-number : goal.invariant-loop-number
invariant-loop-number l = raised l.high (drop l.number-index l.number-items) ≡ raised (max l.floor l.look.version) l.look.own
