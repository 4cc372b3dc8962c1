use Rattle.tm_share.proofs.Moves.{pool-places, pool-put, pool-taken}
use Rattle.tm_share.proofs.law.pools_move_on.Goals as goal

pub returns-clause-places : goal.returns-clause-places
returns-clause-places g c moves all = pool-places moves all

pub returns-clause-put : goal.returns-clause-put
returns-clause-put g c moves all h = pool-put moves all h

pub returns-clause-taken : goal.returns-clause-taken
returns-clause-taken g c moves all h = pool-taken moves all h
