use Rattle.std.proofs.Common.{◌≡◌, get_or, slice_set, ◌∙◌, rules}
use Rattle.tm_change_namespaces.proofs.Places.{changed_there}
use Rattle.tm_change_namespaces.proofs.namespaces.change_at.Goals as goal

pub returns-in-Ok-clause-done : goal.returns-in-Ok-clause-done
returns-in-Ok-clause-done g c =
    let made : c.from_vec.result ≡ slice_set c.args.namespaces.now c.args.place c.change.new.namespace = search rules in
    let at : c.index_mut.result.now ≡ get_or c.args.namespaces.now c.args.place c.index_mut.result.now = search rules in
    let done : c.change.new.namespace ≡ g.C.Change.changed c.args.change c.index_mut.result.now = search rules in
    made ∙ changed_there (g.C.Change.changed c.args.change) c.args.namespaces.now c.args.place c.index_mut.result.now c.change.new.namespace at done
