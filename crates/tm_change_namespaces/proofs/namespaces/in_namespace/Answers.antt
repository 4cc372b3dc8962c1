use Rattle.std.proofs.Common.{◌≡◌, Some, None, [], ◌∷◌, ◌++◌, ap, ◌∙◌, rules}
use Rattle.std.specs.List.{position_from}
use Rattle.tm_word.specs.Prelude.{texts_equal}
use Rattle.tm_rules.specs.Types.{Namespace}
use Rattle.tm_rules.specs.Prelude.{changed_at, empty_namespace}
use Rattle.tm_change_namespaces.proofs.Outcomes.{done_so}
use Rattle.tm_change_namespaces.proofs.Places.{namespace_there, namespace_last}
use Rattle.tm_change_namespaces.proofs.namespaces.in_namespace.Goals as goal

pub returns-in-Some-clause-done : goal.returns-in-Some-clause-done
returns-in-Some-clause-done g c =
    let found : position_from (λ (ns : Namespace). texts_equal ns.name c.args.name) 0 c.args.namespaces.now ≡ Some c.in-Some.place = search rules in
    done_so c.change_at.result
    (λ (h : c.change_at.new.namespaces ≡ changed_at c.in-Some.place (g.C.Change.changed c.args.change) c.args.namespaces.now).
    h ∙ namespace_there c.args.name (g.C.Change.changed c.args.change) c.args.namespaces.now c.in-Some.place found)
    c.change_at.ensures.done

pub returns-in_ok-change-in-None-clause-done : goal.returns-in_ok-change-in-None-clause-done
returns-in_ok-change-in-None-clause-done g c =
    let found : position_from (λ (ns : Namespace). texts_equal ns.name c.args.name) 0 c.args.namespaces.now ≡ None = search rules in
    let changed : c.change.new.namespace ≡ g.C.Change.changed c.args.change (empty_namespace c.args.name) = search rules in
    done_so c.push.result
    (λ (h : c.push.new.self ≡ c.args.namespaces.now ++ c.change.new.namespace ∷ []).
    h ∙ ap (λ (ns : Namespace). c.args.namespaces.now ++ ns ∷ []) changed ∙ namespace_last c.args.name (g.C.Change.changed c.args.change) c.args.namespaces.now found)
    c.push.ensures.ok
