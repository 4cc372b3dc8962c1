use Rattle.std.proofs.Common.{sym, ap, ◌∙◌}
use Rattle.std.specs.Prelude.{Some, option_map}
use Rattle.std.specs.Option.{option_copied}
use Rattle.tm_rules.specs.Types.{EntryPlace, Found}
use Rattle.tm_index.specs.Listing.{listed}
use Rattle.tm_indexed.specs.Candidates.{first_at}
use Rattle.tm_indexed.specs.Known.{found_in_list}
use Rattle.tm_indexed.proofs.FoundLaws.{search_found}
use Rattle.tm_indexed.proofs.search.first_listed.Goals as goal

pub returns-in-Some : goal.returns-in-Some
returns-in-Some c =
    ap (λ (place : EntryPlace). let found : Found = record { place = place; name = c.in-Some.name } in Some found) c.place_in.ensures
    ∙ ap (option_map (found_in_list c.args.group)) (sym c.in-Some.is)
    ∙ search_found c.args.asked.now (listed c.args.list.now) (option_copied c.name.result) c.args.group c.args.entries.now c.first_at-first.result c.first_at-second.result c.sooner-found.result c.soonest_stemmed.result c.requires c.name.ensures
    (c.first_at-first.ensures ∙ ap (first_at c.args.asked.now c.args.entries.now) c.places_named.ensures)
    (c.first_at-second.ensures ∙ ap (first_at c.args.asked.now c.args.entries.now) c.rest.ensures) c.sooner-found.ensures c.soonest_stemmed.ensures

pub returns-in-None : goal.returns-in-None
returns-in-None c =
    ap (option_map (found_in_list c.args.group)) (sym c.in-None.is)
    ∙ search_found c.args.asked.now (listed c.args.list.now) (option_copied c.name.result) c.args.group c.args.entries.now c.first_at-first.result c.first_at-second.result c.sooner-found.result c.soonest_stemmed.result c.requires c.name.ensures
    (c.first_at-first.ensures ∙ ap (first_at c.args.asked.now c.args.entries.now) c.places_named.ensures)
    (c.first_at-second.ensures ∙ ap (first_at c.args.asked.now c.args.entries.now) c.rest.ensures) c.sooner-found.ensures c.soonest_stemmed.ensures
