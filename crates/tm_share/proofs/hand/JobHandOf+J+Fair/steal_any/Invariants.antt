use Rattle.std.proofs.Common.{◌≡◌}
use Rattle.tm_share.proofs.hand.JobHandOf+J+Fair.steal_any.Given as goal

abbrev pub invariant-loop-worker : goal.invariant-loop-worker
invariant-loop-worker g l = l.self ≡ l.initial.self
