use Rattle.std.proofs.Common.{◌<◌, length, arith}
use Rattle.std.proofs.lemmas.List.{get_or_default}
use Rattle.tm_rules.specs.Types.{slot_rank}
use Rattle.tm_legal.specs.Prelude.{switched_config}
use Rattle.tm_rerun.proofs.Values.{changed-there}
use Rattle.tm_rerun.proofs.switching.switched_slots.Goals as goal

pub loop-name-preserved : goal.loop-name-preserved
loop-name-preserved c =
    let lt : c.loop-name.name-index < length c.as_slice-name-items.result.now = omega arith in
    changed-there slot_rank switched_config c.as_slice-name-items.result.now c.loop-name.made _ c.loop-name.name-index _ c.switched_config.result c.replace.result lt (get_or_default _ _ _ _ lt) c.switched_config.ensures c.loop-name.invariant c.replace.ensures.old c.replace.ensures.written c.replace.ensures.rising
