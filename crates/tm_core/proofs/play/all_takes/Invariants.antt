use Rattle.std.proofs.Common.{◌≡◌, map}
use Rattle.std.specs.Prelude.{flat_map}
use Rattle.tm_legal.specs.Prelude.{Way}
use Rattle.tm_take.specs.Ways.{way_of}
use Rattle.tm_core.proofs.play.all_takes.Given as goal

abbrev pub invariant-loop-tree : goal.invariant-loop-tree
invariant-loop-tree l = l.all ≡ flat_map (λ (way : Way). way.takes) (map way_of l.yielded)
