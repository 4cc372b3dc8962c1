use Rattle.std.proofs.Common.{get_or, subst}
use Rattle.tm_steal_rows.specs.Gathering.{IsWalked}
use Rattle.tm_steal_rows.proofs.RowSteps.{walked-each}
use Rattle.tm_steal_rows.proofs.parts.walk_parts.Goals as goal

pub returns : goal.returns
returns g c =
    walked-each c.args.parts.now c.for_each_beside.new.list c.for_each_beside.auto.list (λ i d lt.
    let changed = (c.for_each_beside.ensures i d lt).1 in
    subst (λ old. IsWalked old (get_or c.for_each_beside.new.list i d)) changed.argument_is
    (subst (λ new. IsWalked changed.argument.now new) changed.left changed.call))
