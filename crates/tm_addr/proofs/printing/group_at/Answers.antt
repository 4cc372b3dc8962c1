use Rattle.std.proofs.Common.{arith}
use Rattle.tm_addr.proofs.Bounds.{pow_small, pow_positive}
use Rattle.tm_addr.proofs.printing.group_at.Goals as goal

pub pow-requires : goal.pow-requires
pow-requires c = pow_small c.args.place (omega arith)

pub nonzero_div-result : goal.nonzero_div-result
nonzero_div-result c = omega (arith, c.pow.ensures, pow_positive c.args.place)
