use Rattle.std.proofs.Common.{suc, drop}
use Rattle.std.specs.Prelude.{flat_map}
use Rattle.tm_take.specs.Situations.{situations}
use Rattle.tm_steal_rows.specs.Gathering.{IsWalking}
use Rattle.tm_steal_rows.proofs.walk.walk_tree.Given as goal

abbrev pub invariant-loop-item : goal.invariant-loop-item
invariant-loop-item l =
    IsWalking l.tree l.fn.home l.records (flat_map (λ queue. queue.items) l.initial.queues.items) (suc l.before) (situations l.known) (drop l.item-index l.records) l.takes.items (flat_map (λ queue. queue.items) l.queues.items)
