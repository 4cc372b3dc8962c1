use Rattle.std.proofs.Common.{ap}
use Rattle.std.specs.Prelude.{is_some}
use Rattle.tm_verify_laws.proofs.Unfit.{unfit_leaves}
use Rattle.tm_verify_laws.proofs.laws.unfit_steps_change_nothing.Goals as goal

pub returns : goal.returns
returns c g state step e = unfit_leaves g state step (ap is_some e)
