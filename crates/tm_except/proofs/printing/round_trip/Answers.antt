use Rattle.tm_except.proofs.RuleLaws.{line_again}
use Rattle.tm_except.proofs.FoundLaws.{line_found}
use Rattle.tm_except.proofs.printing.round_trip.Goals as goal

pub returns : goal.returns
returns c = record {
  again = line_again;
  found = line_found;
}
