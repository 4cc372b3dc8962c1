use Rattle.std.proofs.Common.{length}
use Rattle.tm_index.proofs.index.+groups_of.Given as goal

abbrev pub decreases-groups_of : goal.decreases-groups_of
decreases-groups_of l = length l.groups.now
