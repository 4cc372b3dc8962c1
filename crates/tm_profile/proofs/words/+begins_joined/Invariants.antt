use Rattle.std.proofs.Common.{length}
use Rattle.tm_profile.proofs.words.+begins_joined.Given as goal

abbrev pub decreases-begins_joined : goal.decreases-begins_joined
decreases-begins_joined l = length l.front.now
