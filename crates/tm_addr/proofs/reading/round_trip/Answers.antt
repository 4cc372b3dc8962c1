use Rattle.tm_addr.proofs.AddrLaws.{addr_again, range_again}
use Rattle.tm_addr.proofs.Runs.{longest_is, first_is}
use Rattle.tm_addr.proofs.reading.round_trip.Goals as goal

pub returns : goal.returns
returns c = record {
  addr = addr_again;
  longest = longest_is;
  first = first_is;
  range = range_again;
}
