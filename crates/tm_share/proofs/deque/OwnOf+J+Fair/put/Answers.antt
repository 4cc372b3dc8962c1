use Rattle.std.proofs.Common.{arith}
use Rattle.tm_share.proofs.Balance.{puts}
use Rattle.tm_share.proofs.deque.OwnOf+J+Fair.put.Goals as goal

pub push_as-requires-clause-pushes : goal.push_as-requires-clause-pushes
push_as-requires-clause-pushes g c = puts _ _ _ (let i = c.self.invariant in omega arith)
