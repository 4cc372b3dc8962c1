use Rattle.std.proofs.Common.{length}
use Rattle.tm_addr.proofs.reading.+groups_after.Given as goal

abbrev pub decreases-groups_after : goal.decreases-groups_after
decreases-groups_after l = length l.text.now
