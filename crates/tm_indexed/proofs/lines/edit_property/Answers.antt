use Rattle.std.proofs.Common.{◌∙◌}
use Rattle.tm_rules.specs.Prelude.{domain_line}
use Rattle.tm_indexed.proofs.LineLaws.{property_told, line_either}
use Rattle.tm_indexed.proofs.lines.edit_property.Goals as goal

pub returns-clause-index : goal.returns-clause-index
returns-clause-index c =
    c.requires.index
    ∙ line_either c.apply_property.result c.args.policy.now c.apply_property.new.policy c.args.cursor (domain_line c.args.policy.now c.args.cursor c.args.rule.now) c.apply_property.ensures.done c.apply_property.ensures.kept
    (property_told c.args.policy.now c.args.cursor c.args.rule.now c.requires.property)
