use Rattle.tm_pattern.proofs.FaultLaws.{first_fault, no_fault}
use Rattle.tm_pattern.proofs.reading.first_fault.Goals as goal

pub returns : goal.returns
returns c = record { first = first_fault; none = no_fault }
