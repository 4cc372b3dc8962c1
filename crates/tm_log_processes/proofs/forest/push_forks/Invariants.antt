use Rattle.std.proofs.Common.{◌≡◌, ◌++◌, take}
use Rattle.std.specs.Prelude.{map}
use Rattle.tm_rules.specs.Types.{Item}
use Rattle.tm_log_processes.proofs.forest.push_forks.Given as goal

-- those so far
abbrev pub invariant-loop-child : goal.invariant-loop-child
invariant-loop-child l = l.out ≡ l.initial.out ++ map (Item.Fork l.pid) (take l.child-index l.children)
