use Rattle.std.proofs.Common.{length, ◌+◌, ◌*◌}
use Rattle.tm_beside.proofs.each.+parts.Given as goal

abbrev pub decreases-call_both : goal.decreases-call_both
decreases-call_both g l = 4 * length l.rest.now + 2

abbrev pub decreases-call_parts : goal.decreases-call_parts
decreases-call_parts g l = 4 * length l.left.now

abbrev pub decreases-call_both-ours : goal.decreases-call_both-ours
decreases-call_both-ours g l = 4 * length l.rest.now + 1
