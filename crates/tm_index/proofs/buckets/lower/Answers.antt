use Rattle.std.proofs.Common.{◌≡◌, length, ◌∙◌, arith}
use Rattle.tm_index.specs.Buckets.{lowered}
use Rattle.tm_index.proofs.ListLaws.{changed_next, all_changed}
use Rattle.tm_index.proofs.buckets.lower.Goals as goal

pub loop-there-preserved : goal.loop-there-preserved
loop-there-preserved c = changed_next (lowered c.args.place) c.loop-there.there-index c.args.places.now c.loop-there.places 0 c.lowered.result c.loop-there.invariant (omega arith) c.lowered.ensures

pub returns : goal.returns
returns c = let all : c.loop-there.there-index ≡ length c.args.places.now = omega arith in c.loop-there.invariant ∙ all_changed (lowered c.args.place) c.loop-there.there-index c.args.places.now all
