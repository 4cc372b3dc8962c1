use Rattle.std.proofs.Common.{[], sym, ap, ◌∙◌}
use Rattle.std.specs.Option.{option_copied, option_map_or}
use Rattle.tm_index.specs.Listing.{listed, listing}
use Rattle.tm_indexed.proofs.FoundLaws.{nothing_found}
use Rattle.tm_indexed.proofs.lists.DomainListsListSearch.first_in.Goals as goal

pub returns-in-None : goal.returns-in-None
returns-in-None c =
    nothing_found c.args.asked.now c.args.group c.args.entries.now (sym (ap (λ found. option_map_or listed (option_copied found) (listing [])) c.in-None.is) ∙ c.list.ensures ∙ c.requires.known)
