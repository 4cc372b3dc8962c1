use Rattle.std.proofs.Common.{◌≡◌, ◌+◌, ℕ}
use Rattle.tm_share.specs.Pools.{AllLend, all_own_put, all_own_taken}
use Rattle.tm_share.specs.Weights.{weigh}
use Rattle.tm_share.proofs.pool.drain_all.Given as goal

-- what is left of the deques so far
abbrev pub invariant-loop-own : goal.invariant-loop-own
invariant-loop-own g l = AllLend 0 l.yielded → (h : g.row.J.Denot → ℕ) →
    weigh h (all_own_put l.yielded) ≡ weigh h (all_own_taken l.yielded) + weigh h l.left.items
