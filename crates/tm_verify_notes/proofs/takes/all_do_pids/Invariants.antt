use Rattle.std.proofs.Common.{◌≡◌, ◌++◌, drop}
use Rattle.tm_legal.specs.Prelude.{all_do_pids}
use Rattle.tm_verify_notes.proofs.takes.all_do_pids.Given as goal

-- with those from here on it is all of them
abbrev pub invariant-loop-tree : goal.invariant-loop-tree
invariant-loop-tree l = l.pids.items ++ all_do_pids (drop l.tree-index l.trace) ≡ all_do_pids l.trace
