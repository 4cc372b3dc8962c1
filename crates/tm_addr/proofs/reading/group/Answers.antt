use Rattle.std.proofs.Common.{arith}
use Rattle.tm_addr.proofs.Groups.{small_group, value_is, value_there}
use Rattle.tm_addr.proofs.reading.group.Goals as goal

pub overflow_cast-result : goal.overflow_cast-result
overflow_cast-result c =
    omega (arith, value_is _ _ _ c.in-Some.ensures.value, small_group c.args.piece.now c.if-piece-gt4.false c.value_of_digits.ensures.below)

pub returns-in-None : goal.returns-in-None
returns-in-None c = absurd (value_there _ (small_group c.args.piece.now c.if-piece-gt4.false c.value_of_digits.ensures.below) c.in-None.ensures.value)
