use Rattle.std.proofs.Common.{rules}
use Rattle.tm_verify.proofs.AskedLaws.{noted_looks}
use Rattle.tm_verify.proofs.runs.takes_by.Goals as goal

pub all_takes-requires : goal.all_takes-requires
all_takes-requires c = noted_looks c.args.given.now c.args.cases.now c.args.looks.now c.args.parts.now c.as_slice.result.now c.requires.looks c.requires.noted (search rules)
