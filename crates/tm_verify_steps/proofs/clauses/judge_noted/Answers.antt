use Rattle.std.proofs.Common.{rules}
use Rattle.tm_verify_steps.proofs.ClauseLaws.{holds_broken, holds_hold}
use Rattle.tm_verify_steps.proofs.clauses.judge_noted.Goals as goal

pub returns-in-Some : goal.returns-in-Some
returns-in-Some c = holds_broken c.args.given.now c.args.notes.now c.in-Some.place c.requires.below c.requires.noted (search rules)

pub judge_owns-requires-clause-below : goal.judge_owns-requires-clause-below
judge_owns-requires-clause-below c = holds_hold c.args.given.now c.args.notes.now c.requires.below c.requires.noted (search rules)
