use Rattle.std.proofs.Common.{◌≡◌, drop}
use Rattle.std.specs.List.{list_any}
use Rattle.tm_change_namespaces.proofs.alike.is_there.Given as goal

abbrev pub invariant-loop-member : goal.invariant-loop-member
invariant-loop-member g l = list_any (g.T.Alike.alike l.item) (drop l.member-index l.list) ≡ list_any (g.T.Alike.alike l.item) l.list
