use Rattle.std.proofs.Common.{◌≡◌}
use Rattle.tm_gen.specs.Trace.{trace_text, state_of}
use Rattle.tm_gen.proofs.trace.trace_of.Given as goal

-- the trees so far, and the state after them
abbrev pub invariant-loop-before : goal.invariant-loop-before
invariant-loop-before l = (l.out.items ≡ trace_text l.seed l.before) × (l.state ≡ state_of l.seed l.before)
