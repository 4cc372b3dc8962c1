use Rattle.std.proofs.Common.{ap, sym, ◌==◌}
use Rattle.std.proofs.lemmas.Nat.Bits.{bit_at_above}
use Rattle.tm_change_domains.proofs.learning.has_permission.Goals as goal

pub returns-else-place-lt16 : goal.returns-else-place-lt16
returns-else-place-lt16 c = sym (ap (λ b. b == 1) (bit_at_above c.args.bits 16 c.args.place c.ranges.bits.fits c.if-place-lt16.false))
