use Rattle.std.proofs.Common.{◌≡◌, drop}
use Rattle.std.specs.List.{list_any}
use Rattle.tm_change_namespaces.specs.Pairs.{is_pair}
use Rattle.tm_change_namespaces.proofs.alike.is_pair_there.Given as goal

abbrev pub invariant-loop-pair : goal.invariant-loop-pair
invariant-loop-pair g l =
    list_any (is_pair g.A.Alike.alike g.B.Alike.alike l.first l.second) (drop l.pair-index l.list) ≡ list_any (is_pair g.A.Alike.alike g.B.Alike.alike l.first l.second) l.list
