use Rattle.tm_steal_rows.proofs.RecordLaws.{records-asked}
use Rattle.tm_steal_rows.proofs.law.records_can_be_asked.Goals as goal

pub returns : goal.returns
returns c = records-asked
