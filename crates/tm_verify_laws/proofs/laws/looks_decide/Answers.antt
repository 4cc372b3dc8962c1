use Rattle.tm_verify_laws.proofs.LookLaws.{own_order, following}
use Rattle.tm_verify_laws.proofs.laws.looks_decide.Goals as goal

pub returns : goal.returns
returns c = record { own = own_order; follow = following }
