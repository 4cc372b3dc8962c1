use Rattle.std.proofs.Common.{◌≡◌, drop}
use Rattle.std.specs.List.{list_all}
use Rattle.tm_policy.specs.FewTests.{has_short_lists}
use Rattle.tm_policy.proofs.few.have_short_lists.Given as goal

abbrev pub invariant-loop-namespace : goal.invariant-loop-namespace
invariant-loop-namespace l = list_all has_short_lists (drop l.namespace-index l.namespaces) ≡ list_all has_short_lists l.namespaces
