use Rattle.std.proofs.Common.{sym, ◌∙◌}
use Rattle.tm_indexed.proofs.MakeLaws.{make_either}
use Rattle.tm_indexed.proofs.making.make.Goals as goal

pub returns-in-Some-clause-index : goal.returns-in-Some-clause-index
returns-in-Some-clause-index c =
    c.requires.index
    ∙ make_either c.make_known.result c.args.policy.now c.make_known.new.policy c.args.number c.in-Some.home c.args.name (sym (c.live_in.ensures c.args.policy.now c.requires.index) ∙ c.in-Some.is) c.make_known.ensures.done c.make_known.ensures.kept
