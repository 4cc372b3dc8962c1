use Rattle.tm_steal_rows.proofs.Jointly.{stolen-legal}
use Rattle.tm_steal_rows.proofs.law.stolen_runs_are_legal.Goals as goal

pub returns : goal.returns
returns g c = stolen-legal _
