use Rattle.std.proofs.Common.{arith}
use Rattle.tm_share.proofs.Balance.{forks}
use Rattle.tm_share.proofs.deque.OwnOf+J+Fair.way.Goals as goal

pub another-pass-requires : goal.another-pass-requires
another-pass-requires g c = forks _ _ (let i = c.self.invariant in omega arith)
