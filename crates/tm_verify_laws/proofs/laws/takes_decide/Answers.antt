use Rattle.tm_legal.proofs.Legality.{cases_take}
use Rattle.tm_verify_laws.proofs.TakeLaws.{own_are_steps, pairs_decide, rise_is, is_rise}
use Rattle.tm_verify_laws.proofs.laws.takes_decide.Goals as goal

pub returns : goal.returns
returns c = record { pairs = pairs_decide; rising = λ history floor looks. (rise_is history floor looks, is_rise history floor looks); cases = cases_take; own = own_are_steps }
