use Rattle.std.proofs.Common.{arith}
use Rattle.tm_addr.proofs.Bounds.{room}
use Rattle.tm_addr.proofs.reading.with_group.Goals as goal

pub overflow_mul-result : goal.overflow_mul-result
overflow_mul-result c = omega (arith, room c.args.before.value 0 c.args.before.count c.requires (omega arith) (omega arith))

pub overflow_add-result : goal.overflow_add-result
overflow_add-result c = omega (arith, room c.args.before.value c.args.group c.args.before.count c.requires (omega arith) (omega arith))
