use Rattle.std.proofs.Common.{rules, ◌<◌, length}
use Rattle.std.specs.Ordering.{nat_cmp}
use Rattle.std.specs.BTreeMap.{get}
use Rattle.tm_steal_rows.proofs.Owning.{owns-more}
use Rattle.tm_steal_rows.proofs.owners.own_all.Goals as goal

pub loop-played-preserved : goal.loop-played-preserved
loop-played-preserved c =
    let within : c.loop-played.played-index < length c.args.all.now = search rules in (
      owns-more (get nat_cmp c.loop-played.owners) (get nat_cmp c.own_one.new.owners) c.in_ok-own_one.ensures.kept c.args.worker c.args.all.now c.loop-played.played-index c.played-item.result within c.played-item.is c.loop-played.invariant.0 c.in_ok-own_one.ensures.mine,
      λ pid worker at. c.in_ok-own_one.ensures.kept pid worker (c.loop-played.invariant.1 pid worker at),
    )
