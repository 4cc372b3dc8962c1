use Rattle.tm_cond.proofs.CondLaws.{cond_again, cond_read}
use Rattle.tm_cond.proofs.WordLaws.{cond_is}
use Rattle.tm_cond.proofs.laws.round_trip.Goals as goal

pub returns : goal.returns
returns c = record {
  again = cond_again;
  words = cond_is;
  normal = λ words cond_ e. let is = cond_read words cond_ e in (is, cond_again cond_ is);
}
