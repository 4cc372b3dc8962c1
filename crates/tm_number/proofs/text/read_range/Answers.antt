use Rattle.tm_number.proofs.RangeLaws.{range_found}
use Rattle.tm_number.proofs.text.read_range.Goals as goal

pub returns-clause-found : goal.returns-clause-found
returns-clause-found c = range_found c.args.text.now c.range_in.result c.range_in.ensures
