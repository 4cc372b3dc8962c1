use Rattle.std.proofs.Common.{◌≡◌, ◌≤◌, take}
use Rattle.tm_rerun.specs.Summary.{live_count}
use Rattle.tm_rerun.proofs.summary.live_count.Given as goal

abbrev pub invariant-loop-domain : goal.invariant-loop-domain
invariant-loop-domain l = (l.count ≡ live_count (take l.domain-index l.domains)) × (l.count ≤ l.domain-index)
