use Rattle.std.proofs.Common.{◌≡◌, drop}
use Rattle.tm_rules.specs.Prelude.{first_of_all, stat_value}
use Rattle.tm_cond.proofs.attributes.first_number.Given as goal

abbrev pub invariant-loop-stat : goal.invariant-loop-stat
invariant-loop-stat l = first_of_all (stat_value l.place l.field) (drop l.stat-index l.stats) ≡ first_of_all (stat_value l.place l.field) l.stats
