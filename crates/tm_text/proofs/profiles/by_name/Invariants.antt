use Rattle.std.proofs.Common.{◌≡◌, [], drop}
use Rattle.tm_text.specs.ProfileText.{placed, lent}
use Rattle.tm_text.proofs.profiles.by_name.Given as goal

-- from here on it gives what the whole gives
abbrev pub invariant-loop-ns : goal.invariant-loop-ns
invariant-loop-ns l = placed (lent l.ordered.items) (drop l.ns-index l.namespaces) ≡ placed [] l.namespaces
