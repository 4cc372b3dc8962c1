use Rattle.tm_verify.specs.Passing.{IsAt}
use Rattle.tm_verify.proofs.pass.Pass.reach.Given as goal

-- it is at its version
abbrev pub invariant-loop-place : goal.invariant-loop-place
invariant-loop-place g l = IsAt l.given l.self
