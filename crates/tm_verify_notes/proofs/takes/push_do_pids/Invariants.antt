use Rattle.std.proofs.Common.{◌≡◌, ◌++◌, drop}
use Rattle.tm_legal.specs.Prelude.{do_pids}
use Rattle.tm_verify_notes.proofs.takes.push_do_pids.Given as goal

-- with those from here on it is all of them
abbrev pub invariant-loop-item : goal.invariant-loop-item
invariant-loop-item l = l.pids.items ++ do_pids (drop l.item-index l.items) ≡ l.initial.pids.items ++ do_pids l.items
