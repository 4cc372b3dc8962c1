use Rattle.std.proofs.Common.{suc, drop}
use Rattle.std.specs.Prelude.{flat_map}
use Rattle.tm_steal_rows.proofs.RowSteps.{PartsSoFar}
use Rattle.tm_steal_rows.proofs.parts.parts_of.Given as goal

abbrev pub invariant-loop-tree : goal.invariant-loop-tree
invariant-loop-tree l =
    PartsSoFar l.trace l.fn.homes.items (flat_map (λ queue. queue.items) l.fn.queues.items) l.parts.items (suc l.before) (drop l.tree-index l.trace) l.homes.items (flat_map (λ queue. queue.items) l.queues.items)
