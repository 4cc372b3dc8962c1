use Rattle.std.proofs.Common.{arith}
use Rattle.tm_share.proofs.Balance.{takes, finds}
use Rattle.tm_share.proofs.deque.OwnOf+J+Fair.take.Goals as goal

pub pop_as-requires-clause-fifo : goal.pop_as-requires-clause-fifo
pop_as-requires-clause-fifo g c fifo = takes _ _ 1 (let i = c.self.invariant in omega arith)

pub pop_as-requires-clause-empty : goal.pop_as-requires-clause-empty
pop_as-requires-clause-empty g c = finds _ _
