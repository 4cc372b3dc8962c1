use Rattle.tm_grammar.proofs.IsOne.{is_one}
use Rattle.tm_grammar.proofs.tomoyo_grammar_is_one.Goals as goal

pub returns : goal.returns
returns c = is_one
