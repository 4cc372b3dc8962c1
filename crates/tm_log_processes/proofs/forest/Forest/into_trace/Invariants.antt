use Rattle.std.proofs.Common.{◌≡◌}
use Rattle.tm_log_processes.specs.Forests.{in_trees}
use Rattle.tm_log_processes.proofs.forest.Forest.into_trace.Given as goal

-- the lines so far are in their trees
abbrev pub invariant-loop-line : goal.invariant-loop-line
invariant-loop-line l = l.trees.items ≡ in_trees l.initial.trees.items l.yielded
