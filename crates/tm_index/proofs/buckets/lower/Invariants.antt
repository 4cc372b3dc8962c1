use Rattle.std.proofs.Common.{◌≡◌}
use Rattle.tm_index.specs.Buckets.{lowered}
use Rattle.tm_index.proofs.ListLaws.{first_changed}
use Rattle.tm_index.proofs.buckets.lower.Given as goal

-- the places so far are lowered
abbrev pub invariant-loop-there : goal.invariant-loop-there
invariant-loop-there l = l.places ≡ first_changed (lowered l.place) l.there-index l.fn.places
