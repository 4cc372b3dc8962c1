use Rattle.std.proofs.Common.{◌≡◌, drop}
use Rattle.std.specs.List.{list_all}
use Rattle.tm_rules.specs.Prelude.{is_plain_clause}
use Rattle.tm_rerun.proofs.plainness.are_plain_clauses.Given as goal

abbrev pub invariant-loop-clause : goal.invariant-loop-clause
invariant-loop-clause l = list_all is_plain_clause (drop l.clause-index l.clauses) ≡ list_all is_plain_clause l.clauses
