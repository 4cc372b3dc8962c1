use Rattle.std.proofs.Common.{◌∙◌}
use Rattle.tm_rules.specs.Prelude.{manager_line}
use Rattle.tm_indexed.proofs.LineLaws.{line_either}
use Rattle.tm_indexed.proofs.SettingLaws.{manager_told}
use Rattle.tm_indexed.proofs.lines.edit_manager.Goals as goal

pub returns-clause-index : goal.returns-clause-index
returns-clause-index c =
    c.requires.index
    ∙ line_either c.apply_manager.result c.args.policy.now c.apply_manager.new.policy c.args.cursor (manager_line c.args.policy.now c.args.cursor c.args.delete c.args.rule) c.apply_manager.ensures.done c.apply_manager.ensures.kept
    (manager_told c.args.policy.now c.args.cursor c.args.delete c.args.rule)
