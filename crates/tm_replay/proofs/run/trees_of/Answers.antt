use Rattle.std.proofs.Common.{◌∙◌, ap, ◌++◌, ◌∷◌, []}
use Rattle.tm_seat.proofs.Plans.{trees-more}
use Rattle.tm_replay.proofs.run.trees_of.Goals as goal

pub loop-tree-preserved : goal.loop-tree-preserved
loop-tree-preserved g c = trees-more _ _ _ _ _ _ _ c.loop-tree.invariant.0 c.loop-tree.invariant.1 c.in-Some-checked_add.ensures.1 (c.in_ok-push.ensures.items ∙ ap (λ tree. c.loop-tree.trees.items ++ tree ∷ []) c.tree_to_play.ensures)
