use Rattle.std.proofs.Common.{ap, ◌∙◌}
use Rattle.std.specs.Option.{option_copied}
use Rattle.tm_index.specs.Buckets.{places_at}
use Rattle.tm_index.specs.Listing.{listed, noting_name}
use Rattle.tm_index.proofs.ListingLaws.{name_taken}
use Rattle.tm_index.proofs.list.ListIndex.take_name.Goals as goal

pub returns-in-Some : goal.returns-in-Some
returns-in-Some c before place h =
    name_taken c.in-Some.name.now place (places_at c.take_last.new.self) (listed c.args.self.now) before
    (h ∙ ap (λ name. noting_name (option_copied name) place before) c.in-Some.is) (rw c.bytes.ensures at c.take_last.ensures)
