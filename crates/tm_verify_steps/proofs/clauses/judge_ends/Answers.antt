use Rattle.std.proofs.Common.{rules}
use Rattle.tm_verify_steps.proofs.ClauseLaws.{all_hold, ends_broken}
use Rattle.tm_verify_steps.proofs.clauses.judge_ends.Goals as goal

pub returns-in-Some : goal.returns-in-Some
returns-in-Some c = ends_broken c.args.given.now c.args.notes.now c.in-Some.place c.requires.below c.requires.noted (search rules)

pub returns-in-None : goal.returns-in-None
returns-in-None c = all_hold c.args.given.now c.args.notes.now c.requires.below c.requires.noted (search rules)
