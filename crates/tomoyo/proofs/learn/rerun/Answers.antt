use Rattle.tm_call.specs.declared.words.How.{How}
use Rattle.tomoyo.proofs.Rerunning.{alone-so, can-alone}
use Rattle.tomoyo.proofs.learn.rerun.Goals as goal

pub run_by_turns-requires-clause-can : goal.run_by_turns-requires-clause-can
run_by_turns-requires-clause-can c = can-alone c.args.policy c.args.trace c.nobody_else-loaded.result c.nobody_else-loaded.ensures c.requires.can

pub returns : goal.returns
returns c = alone-so How.ByTurns c.args.policy c.args.trace c.nobody_else-loaded.result c.in_ok-run.run' c.in_ok-run.last c.nobody_else-loaded.ensures c.in_ok-run.ensures.plays
