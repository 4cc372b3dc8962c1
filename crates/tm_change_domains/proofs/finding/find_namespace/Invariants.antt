use Rattle.std.proofs.Common.{◌≡◌, drop}
use Rattle.std.specs.List.{find}
use Rattle.tm_rules.specs.Types.{Namespace}
use Rattle.tm_word.specs.Prelude.{texts_equal}
use Rattle.tm_change_domains.proofs.finding.find_namespace.Given as goal

abbrev pub invariant-loop-namespace : goal.invariant-loop-namespace
invariant-loop-namespace l = find (λ (ns : Namespace). texts_equal ns.name l.name) (drop l.namespace-index l.namespaces) ≡ find (λ (ns : Namespace). texts_equal ns.name l.name) l.namespaces
