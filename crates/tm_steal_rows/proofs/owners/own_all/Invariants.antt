use Rattle.std.proofs.Common.{take}
use Rattle.std.specs.List.{AllByRecursion}
use Rattle.std.specs.Ordering.{nat_cmp}
use Rattle.std.specs.BTreeMap.{get}
use Rattle.tm_steal_rows.specs.Gathering.{IsOwned, AreKept}
use Rattle.tm_steal_rows.proofs.owners.own_all.Given as goal

abbrev pub invariant-loop-played : goal.invariant-loop-played
invariant-loop-played l =
    AllByRecursion (IsOwned (get nat_cmp l.owners) l.worker) (take l.played-index l.all)
    × AreKept (get nat_cmp l.initial.owners) (get nat_cmp l.owners)
