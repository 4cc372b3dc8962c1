use Rattle.std.proofs.Common.{◌≡◌, sym, ap, ◌∙◌}
use Rattle.std.specs.Prelude.{[]}
use Rattle.std.specs.Option.{option_copied, option_map_or}
use Rattle.tm_index.specs.Listing.{listed, listing}
use Rattle.tm_indexed.proofs.GroupLaws.{place_nowhere}
use Rattle.tm_indexed.proofs.group_lines.place_in.Goals as goal

-- without a list there are no entries
pub returns-in-None : goal.returns-in-None
returns-in-None c =
    let none : listing [] ≡ listing c.args.entries.now = sym (ap (λ o. option_map_or listed (option_copied o) (listing [])) c.in-None.is) ∙ c.requires.listed in
    place_nowhere c.args.entries.now c.args.label.now c.args.line.now none c.requires.label
