use Rattle.std.proofs.Common.{sym, ap, ◌∙◌}
use Rattle.tm_index.specs.Index.{told}
use Rattle.tm_index.specs.Groups.{in_group}
use Rattle.tm_indexed.specs.Groups.{closed_if}
use Rattle.tm_indexed.proofs.GroupLaws.{none_gone}
use Rattle.tm_indexed.proofs.group_lines.note_gone.Goals as goal

pub returns-in-None : goal.returns-in-None
returns-in-None c = none_gone c.args.number c.args.group (told c.args.index.now) ∙ ap (λ o. in_group c.args.number c.args.group (closed_if o) (told c.args.index.now)) (sym c.in-None.is)
