use Rattle.std.proofs.Common.{arith}
use Rattle.tm_share.proofs.Balance.{takes}
use Rattle.tm_share.proofs.deque.WayOf+J+Fair.steal.Goals as goal

pub steal_as-requires-clause-takes : goal.steal_as-requires-clause-takes
steal_as-requires-clause-takes g c = takes _ _ 1 (let i = c.self.invariant in omega arith)
