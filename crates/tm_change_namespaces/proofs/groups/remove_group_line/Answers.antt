use Rattle.std.proofs.Common.{◌≡◌, Some, None, ◌∙◌, rules}
use Rattle.std.specs.List.{position_from}
use Rattle.tm_word.specs.Prelude.{texts_equal}
use Rattle.tm_rules.specs.Types.{Namespace}
use Rattle.tm_change_namespaces.specs.AclGroups.{line_taken}
use Rattle.tm_change_namespaces.specs.Named.{named}
use Rattle.tm_change_namespaces.proofs.GroupLaws.{named_there, part_somewhere}
use Rattle.tm_change_namespaces.proofs.Places.{namespace_there}
use Rattle.tm_change_namespaces.proofs.groups.remove_group_line.Goals as goal

pub returns-in-Some-clause-done : goal.returns-in-Some-clause-done
returns-in-Some-clause-done c =
    let found : position_from (λ (ns : Namespace). texts_equal ns.name c.args.line.now.namespace) 0 c.args.namespaces.now ≡ Some c.in-Some.place = search rules in
    c.take_line_at.ensures.done ∙ namespace_there c.args.line.now.namespace (line_taken c.args.line.now) c.args.namespaces.now c.in-Some.place found

pub returns-in_default-clause-done : goal.returns-in_default-clause-done
returns-in_default-clause-done c =
    let found : position_from (λ (ns : Namespace). texts_equal ns.name c.args.line.now.namespace) 0 c.args.namespaces.now ≡ None = search rules in
    absurd (part_somewhere c.args.line.now.group c.args.line.now.entry c.args.line.now.namespace c.args.namespaces.now found c.requires)

pub returns-in-Some-clause-left : goal.returns-in-Some-clause-left
returns-in-Some-clause-left c =
    let found : position_from (λ (ns : Namespace). texts_equal ns.name c.args.line.now.namespace) 0 c.args.namespaces.now ≡ Some c.in-Some.place = search rules in
    c.take_line_at.ensures.left (named c.args.line.now.namespace c.args.namespaces.now) (named_there c.args.line.now.namespace c.args.namespaces.now c.in-Some.place found)

pub returns-in_default-clause-left : goal.returns-in_default-clause-left
returns-in_default-clause-left c =
    let found : position_from (λ (ns : Namespace). texts_equal ns.name c.args.line.now.namespace) 0 c.args.namespaces.now ≡ None = search rules in
    absurd (part_somewhere c.args.line.now.group c.args.line.now.entry c.args.line.now.namespace c.args.namespaces.now found c.requires)
