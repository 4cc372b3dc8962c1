use Rattle.std.proofs.Common.{◌≡◌, ◌++◌, drop, map}
use Rattle.tm_rules.specs.Types.{Look}
use Rattle.tm_verify_notes.specs.Noting.{looks_on}
use Rattle.tm_verify_notes.proofs.flat.push_looks.Given as goal

-- with those from here on it is all of them
abbrev pub invariant-loop-look : goal.invariant-loop-look
invariant-loop-look l = l.out.items ++ map (λ (look : Look). (l.case, look)) (drop l.look-index l.look-items) ≡ l.initial.out.items ++ looks_on l.case
