use Rattle.std.proofs.Common.{◌≡◌, ◌++◌}
use Rattle.tm_gen.specs.Trace.{records, state_before}
use Rattle.tm_gen.proofs.trace.push_records.Given as goal

-- the records so far, and the state after them
abbrev pub invariant-loop-place : goal.invariant-loop-place
invariant-loop-place l = (l.out.items ≡ l.initial.out.items ++ records l.tree l.start l.place) × (l.state ≡ state_before l.start l.place)
