use Rattle.std.proofs.Common.{rules, ◌≡◌, ◌<◌, length}
use Rattle.tm_verify_steps.specs.Counting.{counted}
use Rattle.tm_verify_steps.proofs.CountLaws.{look_counted}
use Rattle.tm_verify_steps.proofs.counts.count_looks.Goals as goal

pub loop-look-preserved : goal.loop-look-preserved
loop-look-preserved c =
    let within : c.loop-look.look-index < length c.args.looks.now = search rules in
    let made : c.count_own.new.counts.items ≡ counted c.look-item.result.own c.loop-look.counts.items = search rules in
    look_counted c.args.looks.now c.loop-look.look-index c.look-item.result c.loop-look.counts.items c.count_own.new.counts.items _ within c.look-item.is c.loop-look.invariant made
