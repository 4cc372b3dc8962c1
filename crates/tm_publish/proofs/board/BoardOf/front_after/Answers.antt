use Rattle.std.proofs.Common.{arith}
use Rattle.tm_publish.proofs.board.BoardOf.front_after.Goals as goal

pub returns-clause-begins : goal.returns-clause-begins
returns-clause-begins g c xs k =
    let p = c.args.pass.now.mind.front.counted in
    let n = c.published-now.result.counted in
    let m = c.meet.ensures.met in
    c.told.ensures.met (omega arith) xs k

pub returns-clause-known : goal.returns-clause-known
returns-clause-known g c =
    let p = c.args.pass.now.mind.front.counted in
    let n = c.published-now.result.counted in
    let m = c.meet.ensures.met in
    c.told.ensures.newer (omega arith)
