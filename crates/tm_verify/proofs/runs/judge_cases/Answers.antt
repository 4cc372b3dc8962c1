use Rattle.std.proofs.Common.{rules}
use Rattle.tm_verify_steps.proofs.ClauseLaws.{rise_broken, rise_holds}
use Rattle.tm_verify.proofs.runs.judge_cases.Goals as goal

pub returns-in-Some : goal.returns-in-Some
returns-in-Some g c = rise_broken c.args.given.now c.args.cases.now c.in-Some.place c.requires.below c.requires.cases (search rules)

pub judge_notes-requires-clause-below : goal.judge_notes-requires-clause-below
judge_notes-requires-clause-below g c = rise_holds c.args.given.now c.args.cases.now c.requires.below c.requires.cases (search rules)
