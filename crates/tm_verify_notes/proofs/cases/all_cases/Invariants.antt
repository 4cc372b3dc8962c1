use Rattle.std.proofs.Common.{◌≡◌, ◌++◌, ◌+◌, drop}
use Rattle.tm_legal.specs.Prelude.{cases, cases_from}
use Rattle.tm_verify_notes.proofs.cases.all_cases.Given as goal

-- with those from here on it is all of them
abbrev pub invariant-loop-tree : goal.invariant-loop-tree
invariant-loop-tree g l =
    (l.out.items ++ cases_from l.number (g.R.Rep.policy l.rep) (drop l.tree-index l.trace) l.rest ≡ cases (g.R.Rep.policy l.rep) l.trace l.takes) × (l.number ≡ l.tree-index + 1)
