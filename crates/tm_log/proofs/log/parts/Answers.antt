use Rattle.tm_log.proofs.PartLaws.{parts_join}
use Rattle.tm_log.proofs.log.parts.Goals as goal

pub returns : goal.returns
returns c = parts_join
