use Rattle.std.proofs.Common.{◌∙◌, ap, sym, Ok}
use Rattle.tm_pattern.proofs.LiteralLaws.{spelled_literal, no_literal}
use Rattle.tm_pattern.proofs.reading.pattern_in.Goals as goal

pub of_components-requires : goal.of_components-requires
of_components-requires c =
    no_literal c.args.text.now c.in_ok-components_in-in-None.field-0 (sym c.in_ok-name.ensures ∙ c.in-None.is) c.in_ok-components_in-in-None.ensures

pub returns-in-Some : goal.returns-in-Some
returns-in-Some c = spelled_literal c.args.text.now c.in-Some.name (sym c.in_ok-name.ensures ∙ c.in-Some.is) ∙ ap Ok (sym c.literal.ensures)
