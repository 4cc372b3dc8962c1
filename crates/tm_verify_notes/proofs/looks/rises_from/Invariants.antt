use Rattle.std.proofs.Common.{◌≡◌, drop}
use Rattle.tm_verify_laws.specs.Looks.{rises_from}
use Rattle.tm_verify_notes.proofs.looks.rises_from.Given as goal

-- from here on they rise where all do
abbrev pub invariant-loop-number : goal.invariant-loop-number
invariant-loop-number l = rises_from l.last (drop l.number-index l.own) ≡ rises_from l.low l.own
