use Rattle.tm_query_laws.proofs.Places.{given-at-one, given-has-cause, given-after-ask, given-lasts, detached-after-ask, answered-after-ask}
use Rattle.tm_query_laws.proofs.laws.answers_are_given.Goals as goal

pub returns : goal.returns
returns c =
    record {
      once = given-at-one;
      cause = given-has-cause;
      asked = given-after-ask;
      lasts = given-lasts;
      detached = detached-after-ask;
      answered = answered-after-ask;
    }
