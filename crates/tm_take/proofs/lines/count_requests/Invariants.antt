use Rattle.std.proofs.Common.{◌≡◌, ◌≤◌, length, take}
use Rattle.tm_legal.specs.Prelude.{do_pids}
use Rattle.tm_take.proofs.lines.count_requests.Given as goal

abbrev pub invariant-loop-item : goal.invariant-loop-item
invariant-loop-item l = (l.requests ≡ length (do_pids (take l.item-index l.items))) × (l.requests ≤ l.item-index)
