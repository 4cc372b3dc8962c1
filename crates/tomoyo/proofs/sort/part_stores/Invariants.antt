use Rattle.std.proofs.Common.{◌≡◌, map}
use Rattle.tomoyo.specs.Sort.{part_store}
use Rattle.tomoyo.proofs.sort.part_stores.Given as goal

abbrev pub invariant-loop-part : goal.invariant-loop-part
invariant-loop-part l = l.stores ≡ map part_store l.yielded
