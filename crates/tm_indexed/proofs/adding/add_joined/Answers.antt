use Rattle.std.proofs.Common.{sym, ap, ◌∙◌}
use Rattle.tm_index.specs.Index.{counting_in}
use Rattle.tm_indexed.proofs.ChangeLaws.{some_of}
use Rattle.tm_indexed.proofs.LineLaws.{added_joined}
use Rattle.tm_indexed.proofs.adding.add_joined.Goals as goal

pub add_counted-requires-clause-there : goal.add_counted-requires-clause-there
add_counted-requires-clause-there c =
    let there = some_of _ c.requires.there in
    let looked = c.requires.looked there.0 there.1 in
    (there.0, there.1, looked.permissions)

pub returns-in-Ok-clause-index : goal.returns-in-Ok-clause-index
returns-in-Ok-clause-index c =
    let there = some_of _ c.requires.there in
    let looked = c.requires.looked there.0 there.1 in
    let at = some_of c.args.looked.at c.requires.joins in
    c.count_in.ensures ∙ ap (counting_in c.args.number c.in-Ok.permissions) c.requires.index
    ∙ added_joined c.args.policy.now c.add_counted.new.policy c.args.number c.in-Ok.permissions at.0 c.args.line there.0 there.1 (c.in-Ok.ensures.done there.0 there.1) (c.in-Ok.ensures.counted there.0 there.1) (sym looked.at ∙ at.1)
