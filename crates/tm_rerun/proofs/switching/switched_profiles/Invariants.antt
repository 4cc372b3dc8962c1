use Rattle.tm_legal.specs.Prelude.{switched_profile}
use Rattle.tm_rerun.proofs.Values.{ChangedTo}
use Rattle.tm_rerun.proofs.switching.switched_profiles.Given as goal

-- the profiles before this one are switched
abbrev pub invariant-loop-number : goal.invariant-loop-number
invariant-loop-number l = ChangedTo switched_profile l.number-index l.number-items l.made
