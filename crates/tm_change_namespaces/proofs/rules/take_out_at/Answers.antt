use Rattle.std.proofs.Common.{◌≡◌, get_or, slice_set, ◌∙◌, rules}
use Rattle.tm_rules.specs.Prelude.{except_removed}
use Rattle.tm_change_namespaces.proofs.Places.{changed_there}
use Rattle.tm_change_namespaces.proofs.rules.take_out_at.Goals as goal

pub returns-clause-done : goal.returns-clause-done
returns-clause-done c =
    let made : c.from_vec.result ≡ slice_set c.args.namespaces.now c.args.place c.take_out.new.namespace = search rules in
    let at : c.index_mut.result.now ≡ get_or c.args.namespaces.now c.args.place c.index_mut.result.now = search rules in
    let done : c.take_out.new.namespace ≡ except_removed c.args.rule.now c.index_mut.result.now = search rules in
    made ∙ changed_there (except_removed c.args.rule.now) c.args.namespaces.now c.args.place c.index_mut.result.now c.take_out.new.namespace at done
