use Rattle.std.proofs.Common.{sym, ap, ◌∙◌}
use Rattle.tm_index.specs.declared.label.Label.{Label}
use Rattle.tm_index.specs.Labels.{label_of}
use Rattle.tm_index.specs.Index.{telling, noting_in, counting_in}
use Rattle.tm_indexed.proofs.ChangeLaws.{some_of}
use Rattle.tm_indexed.proofs.LineLaws.{added_new}
use Rattle.tm_indexed.proofs.adding.add_new.Goals as goal

pub add_counted-requires-clause-there : goal.add_counted-requires-clause-there
add_counted-requires-clause-there c =
    let there = some_of _ c.requires.there in
    let looked = c.requires.looked there.0 there.1 in
    (there.0, there.1, looked.permissions)

pub returns-in-Ok-add_counted-clause-index : goal.returns-in-Ok-add_counted-clause-index
returns-in-Ok-add_counted-clause-index c =
    let there = some_of _ c.requires.there in
    let looked = c.requires.looked there.0 there.1 in
    c.count_in.ensures
    ∙ ap (counting_in c.args.number c.in-Ok-add_counted.permissions)
    (c.in-Ok.ensures.done ∙ ap (noting_in c.args.number c.args.label.now c.args.looked.length) c.requires.index ∙ ap (λ (l : Label). noting_in c.args.number l c.args.looked.length (telling c.args.policy.now)) c.requires.label
    ∙ ap (λ n. noting_in c.args.number (label_of c.args.line) n (telling c.args.policy.now)) looked.entries)
    ∙ added_new c.args.policy.now c.add_counted.new.policy c.args.number c.in-Ok-add_counted.permissions c.args.line there.0 there.1 (c.in-Ok-add_counted.ensures.done there.0 there.1) (c.in-Ok-add_counted.ensures.counted there.0 there.1) (sym looked.at ∙ c.requires.new)
