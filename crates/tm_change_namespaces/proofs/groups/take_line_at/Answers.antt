use Rattle.std.proofs.Common.{◌≡◌, get_or, slice_set, subst, ◌∙◌, rules}
use Rattle.tm_change_namespaces.specs.AclGroups.{line_taken}
use Rattle.tm_rules.specs.Types.{Namespace}
use Rattle.tm_rules.specs.Prelude.{acl_group, deleting}
use Rattle.tm_change_namespaces.proofs.GroupLaws.{got}
use Rattle.tm_change_namespaces.proofs.Places.{changed_there}
use Rattle.tm_change_namespaces.proofs.groups.take_line_at.Goals as goal

pub returns-clause-done : goal.returns-clause-done
returns-clause-done c =
    let made : c.from_vec.result ≡ slice_set c.args.namespaces.now c.args.place c.take_line.new.namespace = search rules in
    let at : c.index_mut.result.now ≡ get_or c.args.namespaces.now c.args.place c.index_mut.result.now = search rules in
    made ∙ changed_there (line_taken c.args.line.now) c.args.namespaces.now c.args.place c.index_mut.result.now c.take_line.new.namespace at c.take_line.ensures.done

pub returns-clause-left : goal.returns-clause-left
returns-clause-left c ns h =
    let at : c.index_mut.result.now ≡ get_or c.args.namespaces.now c.args.place c.index_mut.result.now = search rules in
    subst (λ (s : Namespace). acl_group (line_taken c.args.line.now s) c.args.line.now.group ≡ deleting c.args.line.now.entry (acl_group s c.args.line.now.group)) (at ∙ got c.args.namespaces.now c.args.place ns c.index_mut.result.now h) c.take_line.ensures.left
