use Rattle.std.proofs.Common.{◌≡◌, ◌++◌, map, take}
use Rattle.tm_line.specs.Lines.{spaced}
use Rattle.tm_cond.specs.Reading.{clause_text}
use Rattle.tm_cond.proofs.printing.push_clauses.Given as goal

-- the conditions so far are appended
abbrev pub invariant-loop-clause : goal.invariant-loop-clause
invariant-loop-clause l = l.out.items ≡ l.initial.out.items ++ spaced (map clause_text (take l.clause-index l.clauses))
