use Rattle.std.proofs.Common.{rules, ◌≡◌, ◌+◌, ◌<◌, length, arith}
use Rattle.std.specs.List.{AllByRecursion}
use Rattle.std.specs.Ordering.{nat_cmp}
use Rattle.std.specs.BTreeMap.{get}
use Rattle.tm_steal_rows.specs.Gathering.{IsOwned}
use Rattle.tm_steal_rows.proofs.Owning.{each-more}
use Rattle.tm_steal_rows.proofs.owners.check_owners.Goals as goal

pub loop-all-preserved : goal.loop-all-preserved
loop-all-preserved c =
    let within : c.loop-all.all-index < length c.args.given.now = search rules in
    let mine : AllByRecursion (IsOwned (get nat_cmp c.own_all.new.owners) c.loop-all.worker) c.all-item.result = search rules in
    let next : c.in-Some.next ≡ c.loop-all.worker + 1 = search rules in
    let place = c.loop-all.invariant.1 in (
      each-more (get nat_cmp c.loop-all.owners) (get nat_cmp c.own_all.new.owners) c.in_ok-own_all.ensures.kept c.loop-all.worker c.args.given.now c.loop-all.all-index c.all-item.result within c.all-item.is place c.loop-all.invariant.0 mine,
      omega (arith, next, place),
    )
