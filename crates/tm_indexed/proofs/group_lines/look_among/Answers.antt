use Rattle.std.proofs.Common.{arith, ℕ, List, [], sym, ap, subst, ◌∙◌}
use Rattle.std.specs.Option.{option_map_or}
use Rattle.tm_rules.specs.Types.{Entry}
use Rattle.tm_rules.specs.Prelude.{IsShort}
use Rattle.tm_index.specs.Listing.{Listed, listed, listing}
use Rattle.tm_indexed.proofs.GroupLaws.{short_group}
use Rattle.tm_indexed.proofs.group_lines.look_among.Goals as goal

pub place_in-at-requires-clause-listed : goal.place_in-at-requires-clause-listed
place_in-at-requires-clause-listed c =
    ap (λ o. option_map_or listed o (listing [])) c.get.ensures ∙ ap (λ (lists : ℕ → Listed). lists c.args.line.now.group) c.requires.listed ∙ ap listing (sym c.entries_of-entries.ensures)

pub overflow_cast-result : goal.overflow_cast-result
overflow_cast-result c =
    let short : IsShort c.entries_of-entries.result.now = subst (λ (entries : List Entry). IsShort entries) (sym c.entries_of-entries.ensures) (short_group c.args.namespace.now c.args.line.now.group c.requires.few) in
    omega (arith, short)
