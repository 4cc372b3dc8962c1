use Rattle.std.proofs.Common.{◌≡◌, length, arith}
use Rattle.tm_share.proofs.Drains.{drains-none-at, drains-all}
use Rattle.tm_share.proofs.deque.OwnOf+J+Fair.drain.Goals as goal

pub returns-in_default : goal.returns-in_default
returns-in_default g c =
    let i = c.loop-job.invariant in
    drains-none-at c.take.result c.args.self c.loop-job.own c.take.new.self i.0 c.args.left.now.items c.loop-job.left.items c.in_default.is c.take.ensures i.1 i.2

pub returns : goal.returns
returns g c =
    let i = c.loop-job.invariant in
    let first = c.count-count.ensures.left in
    let last = c.count.ensures.left in
    let as_many : length i.0 ≡ length first.0 = (let n = i.3 in let m = first.1 in omega (arith, c.loop-job-test.false, c.loop-job.auto._job-end)) in
    drains-all c.args.self c.loop-job.own i.0 first.0 last.0 c.args.left.now.items c.loop-job.left.items i.1 i.2 as_many first.2 last.2
