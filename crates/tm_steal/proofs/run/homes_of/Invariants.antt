use Rattle.std.proofs.Common.{◌≡◌, ◌++◌, drop}
use Rattle.tm_steal_rows.specs.Gathering.{homes_of}
use Rattle.tm_steal.proofs.run.homes_of.Given as goal

-- the homes so far, and those of the trees that are left
abbrev pub invariant-loop-tree : goal.invariant-loop-tree
invariant-loop-tree g l =
    l.homes.items ++ homes_of l.machine.state.policy (drop l.tree-index l.trace) ≡ homes_of l.machine.state.policy l.trace
