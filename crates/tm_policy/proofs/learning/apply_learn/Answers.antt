use Rattle.std.proofs.Common.{sym, ap, ◌∙◌}
use Rattle.std.specs.Option.{option_copied}
use Rattle.tm_policy.proofs.LearnLaws.{learns_there}
use Rattle.tm_policy.proofs.learning.apply_learn.Goals as goal

pub unreachable-requires : goal.unreachable-requires
unreachable-requires c =
    let there = learns_there c.args.policy.now c.args.domain c.args.entry.now c.requires.there in
    let none = sym c.domain_at.ensures ∙ ap option_copied c.in-None.is in
    let both = sym there.1 ∙ none in
    cc
