use Rattle.std.proofs.Common.{◌≡◌, ℕ, take}
use Rattle.std.specs.Prelude.{map}
use Rattle.tm_rules.specs.Types.{Namespace, Profile}
use Rattle.tm_legal.specs.Prelude.{switched_profile}
use Rattle.tm_rerun.proofs.switching.switched_namespaces.Given as goal

-- the namespaces before this one are made
abbrev pub invariant-loop-namespace : goal.invariant-loop-namespace
invariant-loop-namespace l = l.made ≡ map (λ (ns : Namespace). record ns { profiles = map (λ (pair : ℕ × Profile). (pair.0, switched_profile pair.1)) ns.profiles }) (take l.namespace-index l.namespaces)
