use Rattle.std.proofs.Common.{◌≡◌, Some, None, ◌∙◌, rules}
use Rattle.std.specs.List.{position_from}
use Rattle.tm_word.specs.Prelude.{texts_equal}
use Rattle.tm_rules.specs.Types.{Namespace}
use Rattle.tm_rules.specs.Prelude.{except_removed}
use Rattle.tm_change_namespaces.proofs.Exceptions.{there_somewhere}
use Rattle.tm_change_namespaces.proofs.Places.{namespace_there}
use Rattle.tm_change_namespaces.proofs.rules.remove_rule.Goals as goal

pub returns-in-Some-clause-done : goal.returns-in-Some-clause-done
returns-in-Some-clause-done c =
    let found : position_from (λ (ns : Namespace). texts_equal ns.name c.args.name.now) 0 c.args.namespaces.now ≡ Some c.in-Some.place = search rules in
    c.take_out_at.ensures.done ∙ namespace_there c.args.name.now (except_removed c.args.rule.now) c.args.namespaces.now c.in-Some.place found

pub returns-in_default-clause-done : goal.returns-in_default-clause-done
returns-in_default-clause-done c =
    let found : position_from (λ (ns : Namespace). texts_equal ns.name c.args.name.now) 0 c.args.namespaces.now ≡ None = search rules in
    absurd (there_somewhere c.args.rule.now c.args.name.now c.args.namespaces.now found c.requires)
