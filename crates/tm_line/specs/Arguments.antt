-- The arguments of lines, each one word.
use Rattle.std.specs.Prelude.{ℕ, ◌==◌, if◌then◌else◌, List, [], ◌∷◌, Option, Some, None, Result, Ok, Err}
use Rattle.tm_word.specs.Prelude.{Pattern, Text, Word, spelled_word, ◌>>=◌}
use Rattle.tm_addr.specs.Range.{Range}
use Rattle.tm_addr.specs.AddrRange.{AddrRange}
use Rattle.tm_addr.specs.Numbers.{plain_of, range_of}
use Rattle.tm_addr.specs.Reading.{range_of as addr_range_of}
use Rattle.tm_domain.specs.Reading.{pattern_of}
use Rattle.tm_domain.specs.LineKind.{LineKind}
use Rattle.tm_domain.specs.NameUnion.{NameUnion}
use Rattle.tm_domain.specs.NumberUnion.{NumberUnion}
use Rattle.tm_domain.specs.AddrUnion.{AddrUnion}
use Rattle.tm_domain.specs.Names.{is_path}
use Rattle.tm_line.specs.Lines.{or_kind, word_at}

-- a value in its grammar, or a fault of this kind
abbrev pub kinded : {A F : Type 0} → LineKind → Result A F → Result A LineKind
kinded kind (Ok x) = Ok x
kinded kind (Err fault) = Err kind

-- a group is a spelled word, not empty
abbrev pub not_empty : Option Word → Result Word LineKind
not_empty None = Err LineKind.Name
not_empty (Some []) = Err LineKind.Name
not_empty (Some (b ∷ word)) = Ok (b ∷ word)

unfoldable pub group_word : Text → Result Word LineKind
group_word text = not_empty (spelled_word text)

-- a pattern, which may begin with `@`
unfoldable pub pattern_word : Text → Result Pattern LineKind
pattern_word text = kinded LineKind.Name (pattern_of text)

-- a path, kept as it is written
unfoldable pub path_word : Text → Result Text LineKind
path_word text = if is_path text then Ok text else Err LineKind.Name

-- a range of numbers
unfoldable pub range_word : Text → Result Range LineKind
range_word text = kinded LineKind.Number (range_of text)

-- a range of addresses
unfoldable pub addr_range_word : Text → Result AddrRange LineKind
addr_range_word text = kinded LineKind.Address (addr_range_of text)

-- `@GROUP`, or what this reads
abbrev pub group_or : {A : Type 0} → (Word → A) → (Text → Result A LineKind) → Text
    → Result A LineKind
group_or group one [] = one []
group_or group one (b ∷ word) =
    if b == 64 then (group_word word >>= λ name. Ok (group name)) else one (b ∷ word)

-- no group: one pattern, not empty; one range of numbers; one range of addresses
abbrev pub one_name : Text → Result NameUnion LineKind
one_name [] = Err LineKind.Name
one_name (b ∷ text) = pattern_word (b ∷ text) >>= λ pattern_. Ok (NameUnion.One pattern_)

abbrev pub one_number : Text → Result NumberUnion LineKind
one_number text = range_word text >>= λ range. Ok (NumberUnion.One range)

abbrev pub one_address : Text → Result AddrUnion LineKind
one_address text = addr_range_word text >>= λ range. Ok (AddrUnion.One range)

-- `@GROUP` or a pattern
unfoldable pub name_word : Text → Result NameUnion LineKind
name_word word = group_or NameUnion.Group one_name word

-- `@GROUP` or a range of numbers; a wrong group is a wrong name
unfoldable pub number_word : Text → Result NumberUnion LineKind
number_word word = group_or NumberUnion.Group one_number word

-- `@GROUP` or a range of addresses; a wrong group is a wrong name
unfoldable pub address_word : Text → Result AddrUnion LineKind
address_word word = group_or AddrUnion.Group one_address word

-- a plain number below a limit
unfoldable pub plain_word : ℕ → Text → Result ℕ LineKind
plain_word limit text = or_kind LineKind.Number (plain_of limit text)

-- the same as the first word of a line
unfoldable pub name_at : List Text → Result (NameUnion × List Text) LineKind
name_at words = word_at name_word words

unfoldable pub number_at : List Text → Result (NumberUnion × List Text) LineKind
number_at words = word_at number_word words

unfoldable pub address_at : List Text → Result (AddrUnion × List Text) LineKind
address_at words = word_at address_word words
