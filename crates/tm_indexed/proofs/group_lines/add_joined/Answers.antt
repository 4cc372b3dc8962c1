use Rattle.std.proofs.Common.{sym, ◌∙◌}
use Rattle.tm_indexed.proofs.ChangeLaws.{some_of}
use Rattle.tm_indexed.proofs.GroupLaws.{joined_either}
use Rattle.tm_indexed.proofs.group_lines.add_joined.Goals as goal

pub returns-clause-index : goal.returns-clause-index
returns-clause-index c =
    let at = some_of c.args.looked.at c.requires.joins in
    c.requires.index ∙ joined_either c.add_group_line_at.result c.args.policy.now _ c.args.line at.0 (sym c.requires.looked.at ∙ at.1) c.add_group_line_at.ensures.done c.add_group_line_at.ensures.kept
