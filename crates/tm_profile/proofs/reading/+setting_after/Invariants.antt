use Rattle.std.proofs.Common.{length}
use Rattle.tm_profile.proofs.reading.+setting_after.Given as goal

abbrev pub decreases-setting_after : goal.decreases-setting_after
decreases-setting_after l = length l.words.now
