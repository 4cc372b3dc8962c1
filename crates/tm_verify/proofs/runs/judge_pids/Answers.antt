use Rattle.std.proofs.Common.{rules}
use Rattle.tm_verify_steps.proofs.ClauseLaws.{pairs_broken, pairs_hold}
use Rattle.tm_verify.proofs.runs.judge_pids.Goals as goal

pub returns-in-Some : goal.returns-in-Some
returns-in-Some g c = pairs_broken c.args.given.now c.args.pids.now c.in-Some.place c.requires.pids (search rules)

pub judge_versions-requires-clause-below : goal.judge_versions-requires-clause-below
judge_versions-requires-clause-below g c = pairs_hold c.args.given.now c.args.pids.now c.requires.pids (search rules)
