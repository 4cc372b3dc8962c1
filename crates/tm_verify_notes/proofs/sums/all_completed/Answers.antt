use Rattle.std.proofs.Common.{rules}
use Rattle.tm_verify_notes.proofs.EachLaws.{each_next}
use Rattle.tm_verify_notes.proofs.sums.all_completed.Goals as goal

pub loop-part-preserved : goal.loop-part-preserved
loop-part-preserved c = search (rules, each_next)
