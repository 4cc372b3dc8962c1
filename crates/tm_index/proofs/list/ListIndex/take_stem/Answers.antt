use Rattle.std.proofs.Common.{ap, ◌∙◌}
use Rattle.std.specs.Option.{option_copied}
use Rattle.tm_index.specs.Buckets.{places_at}
use Rattle.tm_index.specs.Listing.{listed, noting_stem}
use Rattle.tm_index.proofs.ListingLaws.{stem_taken}
use Rattle.tm_index.proofs.list.ListIndex.take_stem.Goals as goal

pub returns-in-Some : goal.returns-in-Some
returns-in-Some c before place h =
    stem_taken (option_copied c.args.name) c.in-Some.stem.now place (places_at c.take_last.new.self) (listed c.args.self.now) before
    (h ∙ ap (λ stem. noting_stem (option_copied c.args.name) (option_copied stem) place before) c.in-Some.is) (rw c.bytes.ensures at c.take_last.ensures)
