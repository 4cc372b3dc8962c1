use Rattle.std.proofs.Common.{refl}
use Rattle.tm_beside.proofs.together.call_together.Goals as goal

pub returns-clause-each : goal.returns-clause-each
returns-clause-each g c i d lt = (refl, c.run_together.ensures.each i d lt)
