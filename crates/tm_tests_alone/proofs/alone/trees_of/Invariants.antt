use Rattle.std.proofs.Common.{◌≡◌, length}
use Rattle.tm_seat.specs.Parts.{trees_from}
use Rattle.tm_tests_alone.proofs.alone.trees_of.Given as goal

abbrev pub invariant-loop-tree : goal.invariant-loop-tree
invariant-loop-tree g l =
    (l.trees.items ≡ trees_from l.machine.state.policy 1 l.yielded) × (l.number ≡ length l.yielded)
