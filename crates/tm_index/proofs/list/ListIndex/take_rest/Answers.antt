use Rattle.tm_index.specs.Buckets.{places_at}
use Rattle.tm_index.specs.Listing.{listed, noting_line}
use Rattle.tm_index.proofs.ListingLaws.{line_taken}
use Rattle.tm_index.proofs.list.ListIndex.take_rest.Goals as goal

pub returns : goal.returns
returns c before place h =
    line_taken c.args.label.now.key place (places_at c.take_last.new.self) (listed c.take_stem.new.self) before
    (c.take_stem.ensures (noting_line c.args.label.now.key place before) place (rw (c.as_ref.ensures.value, c.as_ref-2.ensures.value) h)) (rw c.bytes.ensures at c.take_last.ensures)
