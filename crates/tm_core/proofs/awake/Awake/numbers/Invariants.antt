use Rattle.std.proofs.Common.{◌≡◌, ◌++◌}
use Rattle.tm_core.proofs.awake.Awake.numbers.Given as goal

abbrev pub invariant-loop-number : goal.invariant-loop-number
invariant-loop-number l = l.self.trees.keys ≡ l.numbers.items ++ l.number-iterator
