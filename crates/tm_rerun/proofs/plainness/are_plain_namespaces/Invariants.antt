use Rattle.std.proofs.Common.{◌≡◌, drop}
use Rattle.std.specs.List.{list_all}
use Rattle.tm_rules.specs.Prelude.{are_plain_groups}
use Rattle.tm_rerun.proofs.plainness.are_plain_namespaces.Given as goal

abbrev pub invariant-loop-namespace : goal.invariant-loop-namespace
invariant-loop-namespace l = list_all are_plain_groups (drop l.namespace-index l.namespaces) ≡ list_all are_plain_groups l.namespaces
