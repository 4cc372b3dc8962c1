use Rattle.std.proofs.Common.{◌≡◌, drop}
use Rattle.tm_indexed.specs.Candidates.{first_at}
use Rattle.tm_indexed.proofs.search.first_at.Given as goal

abbrev pub invariant-loop-place : goal.invariant-loop-place
invariant-loop-place l = first_at l.asked l.entries (drop l.place-index l.places) ≡ first_at l.asked l.entries l.places
