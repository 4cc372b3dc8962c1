use Rattle.std.proofs.Common.{◌≡◌, drop}
use Rattle.tm_verify_steps.specs.Heights.{height, raised_all}
use Rattle.tm_verify_steps.proofs.heights.heights_of.Given as goal

-- raised by those from here on they are raised by all
abbrev pub invariant-loop-case : goal.invariant-loop-case
invariant-loop-case l = raised_all (height l.heights) (drop l.case-index l.cases) ≡ raised_all (λ tree. 0) l.cases
