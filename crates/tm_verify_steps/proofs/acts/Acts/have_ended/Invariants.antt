use Rattle.std.proofs.Common.{◌≡◌, ◌+◌, drop}
use Rattle.tm_verify_steps.specs.Acting.{have_ended}
use Rattle.tm_verify_steps.proofs.acts.Acts.have_ended.Given as goal

-- from here on they have ended where all have
abbrev pub invariant-loop-tree : goal.invariant-loop-tree
invariant-loop-tree l = (have_ended l.self l.number (drop l.tree-index l.trace) ≡ have_ended l.self 1 l.trace) × (l.number ≡ l.tree-index + 1)
