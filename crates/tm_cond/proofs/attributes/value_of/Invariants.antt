use Rattle.std.proofs.Common.{◌≡◌, drop}
use Rattle.tm_cond.specs.Parts.{value_in}
use Rattle.tm_cond.proofs.attributes.value_of.Given as goal

abbrev pub invariant-loop-own : goal.invariant-loop-own
invariant-loop-own l = value_in (drop l.own-index l.environment) l.name ≡ value_in l.environment l.name
