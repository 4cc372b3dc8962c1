use Rattle.std.proofs.Common.{◌≡◌, ◌≤◌, ◌*◌, take, sum_by}
use Rattle.tm_learn.specs.Counting.{permissions_of}
use Rattle.tm_learn.proofs.count.Given as goal

-- the permissions of the entries so far, of which each has fewer than 2^16
abbrev pub invariant-loop-entry : goal.invariant-loop-entry
invariant-loop-entry l = (l.permissions ≡ sum_by permissions_of (take l.entry-index l.entry-items)) × (l.permissions ≤ 65535 * l.entry-index)
