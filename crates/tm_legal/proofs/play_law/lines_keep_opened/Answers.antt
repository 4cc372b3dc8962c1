use Rattle.tm_legal.proofs.Opened.{line_keeps_opened}
use Rattle.tm_legal.proofs.play_law.lines_keep_opened.Goals as goal

pub returns : goal.returns
returns c = line_keeps_opened
