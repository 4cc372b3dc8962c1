use Rattle.std.proofs.Common.{◌≡◌, ◌+◌, ◌≤◌, length, drop}
use Rattle.tm_legal.specs.Prelude.{do_pids}
use Rattle.tm_verify_notes.proofs.cases.count_dos.Given as goal

-- with those from here on it is the number of all
abbrev pub invariant-loop-item : goal.invariant-loop-item
invariant-loop-item l = (l.count + length (do_pids (drop l.item-index l.items)) ≡ length (do_pids l.items)) × (l.count ≤ l.item-index)
