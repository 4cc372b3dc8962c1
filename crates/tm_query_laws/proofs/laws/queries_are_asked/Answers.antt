use Rattle.tm_query_laws.proofs.Places.{asked-at-one, asked-is-ask}
use Rattle.tm_query_laws.proofs.laws.queries_are_asked.Goals as goal

pub returns : goal.returns
returns c = record { once = asked-at-one; ask = asked-is-ask }
