use Rattle.std.proofs.Common.{rules}
use Rattle.tm_verify_steps.proofs.ClauseLaws.{owns_broken, owns_hold}
use Rattle.tm_verify_steps.proofs.clauses.judge_owns.Goals as goal

pub returns-in-Some : goal.returns-in-Some
returns-in-Some c = owns_broken c.args.given.now c.args.notes.now c.in-Some.place c.requires.below c.requires.noted (search rules)

pub judge_places-requires-clause-below : goal.judge_places-requires-clause-below
judge_places-requires-clause-below c = owns_hold c.args.given.now c.args.notes.now c.requires.below c.requires.noted (search rules)
