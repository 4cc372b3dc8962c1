use Rattle.std.proofs.Common.{◌≡◌, length}
use Rattle.tm_pattern.specs.Checking.{loose}
use Rattle.tm_pattern.specs.Reading.{closes}
use Rattle.tm_pattern.proofs.checking.closes.Given as goal

abbrev pub invariant-loop-token : goal.invariant-loop-token
invariant-loop-token l = closes l.kind (loose l.left) ≡ closes l.kind (loose l.text)

abbrev pub decreases-loop-token : goal.decreases-loop-token
decreases-loop-token l = length l.left
