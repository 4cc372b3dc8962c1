use Rattle.std.proofs.Common.{◌≡◌, drop}
use Rattle.tm_addr.specs.Reading.{gap_at}
use Rattle.tm_addr.proofs.reading.gap_in.Given as goal

abbrev pub invariant-loop-place : goal.invariant-loop-place
invariant-loop-place l = gap_at l.place (drop l.place l.text) ≡ gap_at 0 l.text
