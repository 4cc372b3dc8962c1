use Rattle.std.proofs.Common.{◌≡◌, map, take}
use Rattle.tm_index.specs.Index.{groups_listed, groups_listing}
use Rattle.tm_index.proofs.index.namespaces_of.Given as goal

abbrev pub invariant-loop-namespace : goal.invariant-loop-namespace
invariant-loop-namespace l = map groups_listed l.made ≡ map groups_listing (take l.namespace-index l.namespaces)
