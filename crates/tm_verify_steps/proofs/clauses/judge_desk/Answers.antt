use Rattle.std.proofs.Common.{rules}
use Rattle.tm_verify_steps.proofs.ClauseLaws.{desk_broken, desk_holds}
use Rattle.tm_verify_steps.proofs.clauses.judge_desk.Goals as goal

pub returns-in-Some : goal.returns-in-Some
returns-in-Some c = desk_broken c.args.given.now c.in-Some.place c.requires.below (search rules)

pub judge_hears-requires-clause-below : goal.judge_hears-requires-clause-below
judge_hears-requires-clause-below c = desk_holds c.args.given.now c.requires.below (search rules)
