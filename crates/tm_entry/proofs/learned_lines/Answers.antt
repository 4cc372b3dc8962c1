use Rattle.tm_entry.proofs.LearnedLaws.{learned_is}
use Rattle.tm_entry.proofs.learned_lines.Goals as goal

pub returns : goal.returns
returns c = learned_is
