use Rattle.std.proofs.Common.{◌≡◌, drop}
use Rattle.std.specs.List.{list_all}
use Rattle.tm_rules.specs.Prelude.{clause_holds}
use Rattle.tm_cond.proofs.holds.Given as goal

abbrev pub invariant-loop-clause : goal.invariant-loop-clause
invariant-loop-clause l = list_all (clause_holds l.groups l.process l.request) (drop l.clause-index l.clause-items) ≡ list_all (clause_holds l.groups l.process l.request) l.clause-items
