use Rattle.tm_legal.specs.Prelude.{switched_config}
use Rattle.tm_rerun.proofs.Values.{ChangedTo}
use Rattle.tm_rerun.proofs.switching.switched_slots.Given as goal

-- the slots before this one are switched
abbrev pub invariant-loop-name : goal.invariant-loop-name
invariant-loop-name l = ChangedTo switched_config l.name-index l.name-items l.made
