use Rattle.std.proofs.Common.{◌≡◌, ◌++◌, drop}
use Rattle.tm_verify_notes.specs.Noting.{all_looks}
use Rattle.tm_verify_notes.proofs.flat.all_looks.Given as goal

-- with those from here on it is all of them
abbrev pub invariant-loop-case : goal.invariant-loop-case
invariant-loop-case l = l.out.items ++ all_looks (drop l.case-index l.cases) ≡ all_looks l.cases
