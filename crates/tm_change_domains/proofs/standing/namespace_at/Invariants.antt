use Rattle.std.proofs.Common.{◌≡◌, drop}
use Rattle.std.specs.List.{find, position_from}
use Rattle.tm_rules.specs.Types.{Namespace}
use Rattle.tm_word.specs.Prelude.{texts_equal}
use Rattle.tm_change_domains.proofs.standing.namespace_at.Given as goal

-- from here on it finds what the whole finds
abbrev pub invariant-loop-place : goal.invariant-loop-place
invariant-loop-place l = record {
  place : position_from (λ (ns : Namespace). texts_equal ns.name l.name) l.place (drop l.place l.namespaces) ≡ position_from (λ (ns : Namespace). texts_equal ns.name l.name) 0 l.namespaces;
  found : find (λ (ns : Namespace). texts_equal ns.name l.name) (drop l.place l.namespaces) ≡ find (λ (ns : Namespace). texts_equal ns.name l.name) l.namespaces;
}
