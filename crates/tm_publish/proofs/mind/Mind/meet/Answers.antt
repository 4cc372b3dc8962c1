use Rattle.std.proofs.Common.{arith}
use Rattle.tm_publish.proofs.Prefixes.{take_prefix, prefix_trans, prefix_length}
use Rattle.tm_publish.proofs.mind.Mind.meet.Goals as goal

pub returns-clause-met : goal.returns-clause-met
returns-clause-met g c =
    let m = c.args.self.now in
    let now = c.args.now.now in
    let le = prefix_length m.front.seen.log now.seen.log (prefix_trans m.front.seen.log m.all.log now.seen.log (take_prefix m.front.seen.log m.all.log m.begins) c.meet.ensures.met) in
    let a = m.front.whole in
    let b = now.whole in
    omega arith
