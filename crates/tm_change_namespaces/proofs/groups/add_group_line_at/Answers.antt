use Rattle.std.proofs.Common.{◌≡◌, Some, ap, ◌∙◌, rules}
use Rattle.std.specs.List.{position_from}
use Rattle.tm_word.specs.Prelude.{texts_equal}
use Rattle.tm_rules.specs.Types.{Entry, Namespace}
use Rattle.tm_rules.specs.Prelude.{acl_group, changed_at, same_line}
use Rattle.tm_change_namespaces.specs.AclGroups.{line_added}
use Rattle.tm_change_namespaces.proofs.GroupLaws.{named_at}
use Rattle.tm_change_namespaces.proofs.Outcomes.{done_so}
use Rattle.tm_change_namespaces.proofs.Places.{namespace_there}
use Rattle.tm_change_namespaces.proofs.groups.add_group_line_at.Goals as goal

pub add_line_at-requires-clause-at : goal.add_line_at-requires-clause-at
add_line_at-requires-clause-at c ns h =
    let found : position_from (λ (ns : Namespace). texts_equal ns.name c.args.line.namespace) 0 c.args.namespaces.now ≡ Some c.in-Some.place = search rules in
    c.requires ∙ ap (λ (s : Namespace). position_from (λ (entry : Entry). same_line entry c.args.line.entry) 0 (acl_group s c.args.line.group)) (named_at c.args.line.namespace c.args.namespaces.now c.in-Some.place ns found h)

pub returns-in-Some-clause-done : goal.returns-in-Some-clause-done
returns-in-Some-clause-done c =
    let found : position_from (λ (ns : Namespace). texts_equal ns.name c.args.line.namespace) 0 c.args.namespaces.now ≡ Some c.in-Some.place = search rules in
    done_so c.add_line_at.result
    (λ (h : c.add_line_at.new.namespaces ≡ changed_at c.in-Some.place (line_added c.args.line) c.args.namespaces.now). h ∙ namespace_there c.args.line.namespace (line_added c.args.line) c.args.namespaces.now c.in-Some.place found)
    c.add_line_at.ensures.done
