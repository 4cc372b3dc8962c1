use Rattle.tm_share.proofs.Balance.{merges}
use Rattle.tm_share.proofs.deque.OwnOf+J+Fair.close.Goals as goal

pub absorb-requires-clause-rule : goal.absorb-requires-clause-rule
absorb-requires-clause-rule g c = merges _ _ _ _
