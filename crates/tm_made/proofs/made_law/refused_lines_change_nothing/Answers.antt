use Rattle.tm_made.proofs.Refusing.{refused-lines-change-nothing}
use Rattle.tm_made.proofs.made_law.refused_lines_change_nothing.Goals as goal

pub returns : goal.returns
returns c = refused-lines-change-nothing
