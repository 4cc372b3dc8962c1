use Rattle.std.proofs.Common.{◌≡◌, drop}
use Rattle.std.specs.List.{position_from}
use Rattle.tm_rules.specs.Types.{Namespace}
use Rattle.tm_word.specs.Prelude.{texts_equal}
use Rattle.tm_change_namespaces.proofs.namespaces.namespace_place.Given as goal

abbrev pub invariant-loop-place : goal.invariant-loop-place
invariant-loop-place l = position_from (λ (ns : Namespace). texts_equal ns.name l.name) l.place (drop l.place l.namespaces) ≡ position_from (λ (ns : Namespace). texts_equal ns.name l.name) 0 l.namespaces
