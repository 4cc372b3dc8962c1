use Rattle.std.proofs.Common.{◌≡◌, drop}
use Rattle.tm_rules.specs.Prelude.{first_of_all, stat_kind}
use Rattle.tm_cond.proofs.attributes.first_kind.Given as goal

abbrev pub invariant-loop-stat : goal.invariant-loop-stat
invariant-loop-stat l = first_of_all (stat_kind l.place) (drop l.stat-index l.stats) ≡ first_of_all (stat_kind l.place) l.stats
