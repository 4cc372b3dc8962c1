use Rattle.std.proofs.Common.{◌<◌, ℕ, length, arith}
use Rattle.tm_legal.specs.Prelude.{switched_profile}
use Rattle.tm_rerun.proofs.Values.{changed-there}
use Rattle.tm_rerun.proofs.switching.switched_profiles.Goals as goal

pub loop-number-preserved : goal.loop-number-preserved
loop-number-preserved c =
    let lt : c.loop-number.number-index < length c.as_slice-number-items.result.now = omega arith in
    changed-there (λ (n : ℕ). n) switched_profile c.as_slice-number-items.result.now c.loop-number.made _ c.loop-number.number-index c.loop-number-item.result c.in_ok-changed.changed c.replace.result lt c.loop-number-item.is c.in_ok-changed.ensures c.loop-number.invariant c.replace.ensures.old c.replace.ensures.written c.replace.ensures.rising
