use Rattle.std.proofs.Common.{rules}
use Rattle.tm_index.specs.Listing.{listed}
use Rattle.tm_index.proofs.IndexLaws.{listing_next}
use Rattle.tm_index.proofs.list.list_of.Goals as goal

pub loop-place-preserved : goal.loop-place-preserved
loop-place-preserved c =
    listing_next c.args.entries.now c.loop-place.place c.index-entries-place.result c.in_ok-label.label (listed c.loop-place.made) (listed c.note.new.self) c.loop-place-test.true (search rules) c.loop-place.invariant
    c.in_ok-label.ensures c.in_ok-note.ensures.done
