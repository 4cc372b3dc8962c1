use Rattle.std.proofs.Common.{rules, ◌≡◌, ◌<◌, length, flat_map}
use Rattle.tm_rules.specs.Types.{Look}
use Rattle.tm_verify_steps.specs.Counting.{counted}
use Rattle.tm_verify_steps.proofs.CountLaws.{take_counted}
use Rattle.tm_verify_steps.proofs.counts.count_takes.Goals as goal

pub loop-taken-preserved : goal.loop-taken-preserved
loop-taken-preserved c =
    let within : c.loop-taken.taken-index < length c.args.takes.now = search rules in
    let made : c.count_looks.new.counts.items ≡ counted (flat_map (λ (look : Look). look.own) c.taken-item.result.looks) c.loop-taken.counts.items = search rules in
    take_counted c.args.takes.now c.loop-taken.taken-index c.taken-item.result c.loop-taken.counts.items c.count_looks.new.counts.items _ within c.taken-item.is c.loop-taken.invariant made
