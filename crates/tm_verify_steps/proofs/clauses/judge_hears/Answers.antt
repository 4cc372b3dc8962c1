use Rattle.std.proofs.Common.{rules}
use Rattle.tm_verify_steps.proofs.ClauseLaws.{hears_broken, hears_hold}
use Rattle.tm_verify_steps.proofs.clauses.judge_hears.Goals as goal

pub returns-in-Some : goal.returns-in-Some
returns-in-Some c = hears_broken c.args.given.now c.args.notes.now c.in-Some.place c.requires.below c.requires.noted (search rules)

pub judge_ends-requires-clause-below : goal.judge_ends-requires-clause-below
judge_ends-requires-clause-below c = hears_hold c.args.given.now c.args.notes.now c.requires.below c.requires.noted (search rules)
