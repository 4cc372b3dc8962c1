use Rattle.tm_line.proofs.GroupLaws.{group_again, group_found}
use Rattle.tm_line.proofs.NameArgLaws.{pattern_again, pattern_read, name_again, name_read}
use Rattle.tm_line.proofs.NumberArgLaws.{range_written, range_read, number_again, number_read, plain_again, plain_read}
use Rattle.tm_line.proofs.AddrArgLaws as addresses
use Rattle.tm_line.proofs.PermLaws.{perms_again, perms_read}
use Rattle.tm_line.proofs.DomainLaws.{domain_again, at_right, to_end_again, to_end_right}
use Rattle.tm_line.proofs.laws.round_trip.Goals as goal

pub returns : goal.returns
returns c = record {
  group = group_again;
  group_read = group_found;
  pattern = pattern_again;
  pattern_read = pattern_read;
  range = range_written;
  range_read = range_read;
  addr_range = addresses.range_written;
  addr_range_read = addresses.range_read;
  name = name_again;
  name_read = name_read;
  number = number_again;
  number_read = number_read;
  address = addresses.address_again;
  address_read = addresses.address_read;
  plain = plain_again;
  plain_read = plain_read;
  perms = perms_again;
  perms_read = perms_read;
  domain = domain_again;
  domain_read = λ words name rest e. at_right words (name, rest) e;
  to_end = to_end_again;
  to_end_read = to_end_right;
}
