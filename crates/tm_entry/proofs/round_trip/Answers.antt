use Rattle.tm_entry.proofs.EntryLaws.{entry_again, entry_read}
use Rattle.tm_entry.proofs.EntryText.{entry_are, entry_found}
use Rattle.tm_entry.proofs.round_trip.Goals as goal

pub returns : goal.returns
returns c = record {
  written = entry_again;
  words = entry_are;
  text = entry_found;
  read = entry_read;
  normal = λ words entry e. entry_again entry (entry_read words entry e);
}
