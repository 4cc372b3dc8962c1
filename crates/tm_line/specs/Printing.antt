-- The printed form of arguments.
use Rattle.std.specs.Prelude.{◌∷◌}
use Rattle.tm_word.specs.Prelude.{Text, spell, spelled_pattern}
use Rattle.tm_addr.specs.Numbers.{range_spelling}
use Rattle.tm_addr.specs.Printing.{addr_range_spelling}
use Rattle.tm_domain.specs.NameUnion.{NameUnion}
use Rattle.tm_domain.specs.NumberUnion.{NumberUnion}
use Rattle.tm_domain.specs.AddrUnion.{AddrUnion}

-- a group after `@`, or the pattern
unfoldable pub name_spelling : NameUnion → Text
name_spelling (NameUnion.One pattern_) = spelled_pattern pattern_
name_spelling (NameUnion.Group group) = 64 ∷ spell group

-- a group after `@`, or the range
unfoldable pub number_spelling : NumberUnion → Text
number_spelling (NumberUnion.One range) = range_spelling range
number_spelling (NumberUnion.Group group) = 64 ∷ spell group

-- a group after `@`, or the range
unfoldable pub address_spelling : AddrUnion → Text
address_spelling (AddrUnion.One range) = addr_range_spelling range
address_spelling (AddrUnion.Group group) = 64 ∷ spell group
