use Rattle.std.proofs.Common.{◌≡◌, get_or, slice_set, ◌∙◌, rules}
use Rattle.tm_change_namespaces.specs.AclGroups.{line_added}
use Rattle.tm_change_namespaces.proofs.GroupLaws.{at_place}
use Rattle.tm_change_namespaces.proofs.Places.{changed_there}
use Rattle.tm_change_namespaces.proofs.groups.add_line_at.Goals as goal

pub add_line-requires : goal.add_line-requires
add_line-requires c =
    let at : c.index_mut.result.now ≡ get_or c.args.namespaces.now c.args.place c.index_mut.result.now = search rules in
    c.requires.at c.index_mut.result.now (at_place c.args.namespaces.now c.args.place c.index_mut.result.now c.requires.within at)

pub returns-in-Ok-clause-done : goal.returns-in-Ok-clause-done
returns-in-Ok-clause-done c =
    let made : c.from_vec.result ≡ slice_set c.args.namespaces.now c.args.place c.add_line.new.namespace = search rules in
    let at : c.index_mut.result.now ≡ get_or c.args.namespaces.now c.args.place c.index_mut.result.now = search rules in
    made ∙ changed_there (line_added c.args.line) c.args.namespaces.now c.args.place c.index_mut.result.now c.add_line.new.namespace at c.in-Ok.ensures.done
