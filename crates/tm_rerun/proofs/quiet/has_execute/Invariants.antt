use Rattle.std.proofs.Common.{◌≡◌, map}
use Rattle.std.specs.Prelude.{codes}
use Rattle.tm_rules.specs.Prelude.{is_one_of}
use Rattle.tm_rerun.proofs.quiet.has_execute.Given as goal

abbrev pub invariant-loop-piece : goal.invariant-loop-piece
invariant-loop-piece l = l.found ≡ is_one_of (codes "execute") (map (λ x. x.now) l.yielded)
