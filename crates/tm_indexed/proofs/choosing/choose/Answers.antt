use Rattle.std.proofs.Common.{sym, ◌∙◌}
use Rattle.tm_rules.specs.Prelude.{domain_line}
use Rattle.tm_rules.specs.Types.{DomainRule}
use Rattle.tm_indexed.proofs.LineLaws.{choose_old, edit_either}
use Rattle.tm_indexed.proofs.choosing.choose.Goals as goal

pub returns-in-Some-clause-index : goal.returns-in-Some-clause-index
returns-in-Some-clause-index c =
    c.requires.index
    ∙ edit_either c.choose_known.result c.args.policy.now c.choose_known.new.policy c.args.cursor.now c.choose_known.new.cursor (domain_line c.args.policy.now c.args.cursor.now (DomainRule.Choose c.args.name)) c.choose_known.ensures.done c.choose_known.ensures.kept
    (choose_old c.args.policy.now c.args.cursor.now c.in-Some.home c.args.name (sym c.live_of.ensures ∙ c.in-Some.is))
