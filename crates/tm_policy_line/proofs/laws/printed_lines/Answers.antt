use Rattle.tm_policy_line.proofs.TextLines.{name_joined}
use Rattle.tm_policy_line.proofs.laws.printed_lines.Goals as goal

pub returns : goal.returns
returns c = name_joined
