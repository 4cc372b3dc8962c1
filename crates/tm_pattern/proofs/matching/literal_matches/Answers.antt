use Rattle.std.proofs.Common.{◌∙◌, ap}
use Rattle.tm_word.specs.Prelude.{texts_equal}
use Rattle.tm_pattern.proofs.LiteralLaws.{literal_matches}
use Rattle.tm_pattern.proofs.matching.literal_matches.Goals as goal

pub returns : goal.returns
returns c = c.bytes_equal.ensures ∙ ap (λ own. texts_equal own c.args.name.now) c.as_slice.ensures ∙ literal_matches c.args.own.now c.args.name.now
