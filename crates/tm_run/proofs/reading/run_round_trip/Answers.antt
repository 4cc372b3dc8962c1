use Rattle.tm_run.proofs.ReadLaws.{run_again}
use Rattle.tm_run.proofs.WriteLaws.{run_found}
use Rattle.tm_run.proofs.FaultLaws.{some_goes_on, none_goes_on}
use Rattle.tm_run.proofs.reading.run_round_trip.Goals as goal

pub returns : goal.returns
returns c = record {
  written = run_again;
  read = run_found;
  fault = λ text line e. (some_goes_on text line e, none_goes_on text line e);
}
