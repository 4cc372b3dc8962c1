use Rattle.std.proofs.Common.{◌≡◌, take}
use Rattle.tm_index.specs.Buckets.{places_at}
use Rattle.tm_index.specs.Index.{live_places}
use Rattle.tm_index.proofs.index.live_of.Given as goal

abbrev pub invariant-loop-place : goal.invariant-loop-place
invariant-loop-place l = places_at l.live ≡ live_places (take l.place l.domains)
