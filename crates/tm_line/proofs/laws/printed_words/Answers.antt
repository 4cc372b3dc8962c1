use Rattle.tm_line.proofs.WholeLaws.{words_again, spelled_solid, pattern_solid, name_is, number_is, address_is, perms_is, path_is, parts_are}
use Rattle.tm_line.proofs.laws.printed_words.Goals as goal

pub returns : goal.returns
returns c = record {
  again = words_again;
  group = spelled_solid;
  pattern = pattern_solid;
  name = name_is;
  number = number_is;
  address = address_is;
  perms = perms_is;
  path = path_is;
  domain = parts_are;
}
