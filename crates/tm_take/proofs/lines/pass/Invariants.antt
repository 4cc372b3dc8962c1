use Rattle.std.proofs.Common.{◌≡◌, length}
use Rattle.tm_rules.specs.Prelude.{Grammar}
use Rattle.tm_legal.specs.Prelude.{do_pids, passed}
use Rattle.tm_take.specs.Situations.{situations}
use Rattle.tm_take.proofs.lines.pass.Given as goal

abbrev pub invariant-loop-item : goal.invariant-loop-item
invariant-loop-item l = ((g : Grammar) → passed g (situations l.known) l.lines ≡ passed g (situations l.initial.known) l.initial.lines) × (do_pids l.lines ≡ do_pids l.initial.lines)

abbrev pub decreases-loop-item : goal.decreases-loop-item
decreases-loop-item l = length l.lines
