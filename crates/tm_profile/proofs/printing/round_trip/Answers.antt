use Rattle.tm_profile.proofs.TextLaws.{profiles_again}
use Rattle.tm_profile.proofs.KeptLaws.{line_kept}
use Rattle.tm_profile.proofs.printing.round_trip.Goals as goal

pub returns : goal.returns
returns c = record {
  again = profiles_again;
  kept = line_kept;
}
