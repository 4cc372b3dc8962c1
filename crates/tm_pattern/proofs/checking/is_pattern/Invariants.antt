use Rattle.std.specs.Result.{is_ok}
use Rattle.std.proofs.Common.{◌≡◌, length}
use Rattle.tm_pattern.specs.Checking.{bare, loose}
use Rattle.tm_pattern.specs.Reading.{parsed, pattern_of}
use Rattle.tm_pattern.proofs.checking.is_pattern.Given as goal

abbrev pub invariant-loop-token : goal.invariant-loop-token
invariant-loop-token l = is_ok (parsed (bare l.at.stage l.at.repeat) (loose l.left) 0) ≡ is_ok (pattern_of l.text)

abbrev pub decreases-loop-token : goal.decreases-loop-token
decreases-loop-token l = length l.left
