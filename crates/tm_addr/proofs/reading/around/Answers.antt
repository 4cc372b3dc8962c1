use Rattle.std.proofs.Common.{arith}
use Rattle.tm_addr.proofs.Bounds.{raised_fits}
use Rattle.tm_addr.proofs.reading.around.Goals as goal

pub overflow_add-result : goal.overflow_add-result
overflow_add-result c =
    let f = c.args.front in
    let b = c.args.back in
    omega (arith, c.raised.ensures, raised_fits f.value b.value f.count b.count c.requires.front.0 c.requires.back.0 (omega arith))
