use Rattle.std.proofs.Common.{rules}
use Rattle.tm_verify.proofs.AskedLaws.{looks_asked}
use Rattle.tm_verify.proofs.runs.notes_of.Goals as goal

pub notes_by-requires-clause-asked : goal.notes_by-requires-clause-asked
notes_by-requires-clause-asked g c = looks_asked c.args.given.now c.args.cases.now c.as_slice.result.now c.requires.asked c.requires.cases (search rules)
