use Rattle.std.proofs.Common.{◌-◌, arith, ap, ◌*◌, ◌≡◌, ◌^◌}
use Rattle.tm_addr.proofs.Bounds.{pow_small, raised_fits}
use Rattle.tm_addr.proofs.reading.raised.Goals as goal

pub pow-requires : goal.pow-requires
pow-requires c = pow_small (8 - c.args.front.count) (omega arith)

pub overflow_mul-result : goal.overflow_mul-result
overflow_mul-result c =
    let f = c.args.front in
    let is : f.value * c.pow.result ≡ f.value * 65536 ^ (8 - f.count) = ap (λ x. f.value * x) c.pow.ensures in
    omega (arith, is, raised_fits f.value 0 f.count 0 c.requires.0 (omega arith) (omega arith))
