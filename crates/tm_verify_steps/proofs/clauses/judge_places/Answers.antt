use Rattle.std.proofs.Common.{rules}
use Rattle.tm_verify_steps.proofs.ClauseLaws.{places_broken, places_hold}
use Rattle.tm_verify_steps.proofs.clauses.judge_places.Goals as goal

pub returns-in-Some : goal.returns-in-Some
returns-in-Some c = places_broken c.args.given.now c.in-Some.place c.requires.below (search rules)

pub judge_desk-requires-clause-below : goal.judge_desk-requires-clause-below
judge_desk-requires-clause-below c = places_hold c.args.given.now c.requires.below (search rules)
