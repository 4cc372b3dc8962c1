use Rattle.std.proofs.Common.{sym, ap, ◌∙◌}
use Rattle.tm_policy.proofs.LearnLaws.{learns_there}
use Rattle.tm_index.specs.Index.{counting_in}
use Rattle.tm_indexed.proofs.ChangeLaws.{some_of, learned_joined}
use Rattle.tm_indexed.proofs.learning.learn_joined.Goals as goal

pub returns-in-Ok-clause-index : goal.returns-in-Ok-clause-index
returns-in-Ok-clause-index c =
    let there = learns_there c.args.policy.now c.args.number c.args.line.now c.requires.there in
    let looked = c.requires.looked there.0 there.1 in
    let at = some_of c.args.looked.at c.requires.joins in
    c.count_in.ensures ∙ ap (counting_in c.args.number c.in-Ok.permissions) c.requires.index
    ∙ learned_joined c.args.policy.now c.args.number c.args.line.now there.0 there.1 c.learn_known.new.policy c.in-Ok.reply c.in-Ok.permissions at.0 c.in-Ok.ensures.done c.in-Ok.ensures.counts (sym looked.at ∙ at.1)
