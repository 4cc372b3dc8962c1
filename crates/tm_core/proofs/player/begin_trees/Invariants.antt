use Rattle.std.proofs.Common.{◌≡◌, map}
use Rattle.tm_take.specs.Ways.{way_of}
use Rattle.tm_core.specs.Players.{way_at_start}
use Rattle.tm_core.proofs.player.begin_trees.Given as goal

abbrev pub invariant-loop-tree : goal.invariant-loop-tree
invariant-loop-tree g l = map way_of l.begun.items ≡ map (way_at_start l.machine.state.policy) l.yielded
