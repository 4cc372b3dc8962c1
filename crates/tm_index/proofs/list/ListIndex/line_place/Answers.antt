use Rattle.std.proofs.Common.{ap, ◌∙◌}
use Rattle.tm_index.specs.Buckets.{places_at}
use Rattle.tm_index.specs.Listing.{listed}
use Rattle.tm_index.proofs.ListingLaws.{line_found, found_within, line_there}
use Rattle.tm_index.proofs.list.ListIndex.line_place.Goals as goal

pub returns-clause-found : goal.returns-clause-found
returns-clause-found c =
    c.first_sharing.ensures
    ∙ line_found (listed c.args.self.now) c.args.entries.now c.args.label.now c.args.line.now c.get-places.result.now c.requires.listed c.requires.label (c.get-places.ensures ∙ ap (places_at c.args.self.now.lines) c.bytes.ensures)

pub returns-clause-within : goal.returns-clause-within
returns-clause-within c = found_within c.args.line.now c.args.entries.now c.first_sharing.result (returns-clause-found c)

pub returns-clause-there : goal.returns-clause-there
returns-clause-there c =
    c.any_having.ensures
    ∙ line_there (listed c.args.self.now) c.args.entries.now c.args.label.now c.args.line.now c.get-places.result.now c.requires.listed c.requires.label (c.get-places.ensures ∙ ap (places_at c.args.self.now.lines) c.bytes.ensures)
