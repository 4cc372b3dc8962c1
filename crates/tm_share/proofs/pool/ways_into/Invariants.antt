use Rattle.std.proofs.Common.{◌≡◌, map}
use Rattle.tm_share.specs.Deques.{lending, way_into}
use Rattle.tm_share.proofs.pool.ways_into.Given as goal

abbrev pub invariant-loop-own : goal.invariant-loop-own
invariant-loop-own g l = (l.lent.items ≡ map lending l.yielded) × (l.ways.items ≡ map way_into l.yielded)
