use Rattle.std.proofs.Common.{◌≡◌, ◌+◌, ◌≤◌, drop}
use Rattle.tm_legal.specs.Prelude.{Case}
use Rattle.tm_verify_laws.specs.First.{first_failing}
use Rattle.tm_verify_laws.specs.Scans.{do_rise}
use Rattle.tm_verify_steps.proofs.clauses.rise_fault.Given as goal

-- from here on it finds what the whole finds
abbrev pub invariant-loop-case : goal.invariant-loop-case
invariant-loop-case l =
    (first_failing (λ (c : Case). do_rise l.last c.now.floor c.taken.looks) l.number (drop l.case-index l.cases)
    ≡ first_failing (λ (c : Case). do_rise l.last c.now.floor c.taken.looks) 1 l.cases)
    × (l.number ≤ l.case-index + 1)
