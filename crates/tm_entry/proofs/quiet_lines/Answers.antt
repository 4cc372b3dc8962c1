use Rattle.tm_entry.proofs.QuietLaws.{quiet_entry}
use Rattle.tm_entry.proofs.quiet_lines.Goals as goal

pub returns : goal.returns
returns c = quiet_entry
