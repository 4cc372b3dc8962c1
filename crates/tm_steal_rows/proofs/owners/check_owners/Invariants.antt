use Rattle.std.proofs.Common.{◌≡◌, take}
use Rattle.std.specs.Ordering.{nat_cmp}
use Rattle.std.specs.BTreeMap.{get}
use Rattle.tm_steal_rows.specs.Gathering.{EachOwned}
use Rattle.tm_steal_rows.proofs.owners.check_owners.Given as goal

abbrev pub invariant-loop-all : goal.invariant-loop-all
invariant-loop-all l =
    EachOwned (get nat_cmp l.owners) 0 (take l.all-index l.given) × (l.worker ≡ l.all-index)
