use Rattle.std.proofs.Common.{rules}
use Rattle.tm_verify_steps.proofs.PlaceLaws.{lines_decide}
use Rattle.tm_verify_steps.proofs.places.places_fault.Goals as goal

pub returns : goal.returns
returns c = lines_decide c.args.given.now c.first_misplaced.new.had.items c.lines_fault.result (search rules) (search rules) (search rules)
