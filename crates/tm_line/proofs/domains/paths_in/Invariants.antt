use Rattle.std.proofs.Common.{◌≡◌, ◌+◌, ◌-◌, ◌≤◌, length, drop}
use Rattle.tm_line.specs.Domains.{paths_in}
use Rattle.tm_line.proofs.domains.paths_in.Given as goal

abbrev pub invariant-loop-count : goal.invariant-loop-count
invariant-loop-count l = (l.count ≤ length l.words) × (l.count + paths_in (drop l.count l.words) ≡ paths_in l.words)

abbrev pub decreases-loop-count : goal.decreases-loop-count
decreases-loop-count l = length l.words - l.count
