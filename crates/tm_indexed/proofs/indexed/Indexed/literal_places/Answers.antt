use Rattle.std.proofs.Common.{◌≡◌, [], sym, ap, ◌∙◌}
use Rattle.std.specs.Option.{option_copied, option_map_or}
use Rattle.tm_rules.specs.Types.{Policy}
use Rattle.tm_index.specs.Listing.{listed, listing}
use Rattle.tm_indexed.specs.Known.{list_of}
use Rattle.tm_indexed.proofs.LiteralLaws.{lent_named, none_named}
use Rattle.tm_indexed.proofs.indexed.Indexed.literal_places.Goals as goal

pub returns-in-Some : goal.returns-in-Some
returns-in-Some c =
    let e : listed c.in-Some.list.now ≡ listing (list_of c.args.self.now c.args.domain c.args.group) =
    sym (ap (λ found. option_map_or listed (option_copied found) (listing [])) c.in-Some.is) ∙ c.list_at.ensures ∙ ap (λ (p : Policy). listing (list_of p c.args.domain c.args.group)) c.self.view_is in
    lent_named c.in-Some.list.now (list_of c.args.self.now c.args.domain c.args.group) c.args.name.now c.named.result.now e c.named.ensures

pub returns-in-None : goal.returns-in-None
returns-in-None c =
    let e : listing [] ≡ listing (list_of c.args.self.now c.args.domain c.args.group) =
    sym (ap (λ found. option_map_or listed (option_copied found) (listing [])) c.in-None.is) ∙ c.list_at.ensures ∙ ap (λ (p : Policy). listing (list_of p c.args.domain c.args.group)) c.self.view_is in
    none_named (list_of c.args.self.now c.args.domain c.args.group) c.args.name.now e
