-- The literal that the first name argument of an entry is.
use Rattle.std.specs.Prelude.{Option, Some, None, if◌then◌else◌}
use Rattle.std.specs.Option.{option_and_then}
use Rattle.tm_word.specs.Prelude.{Pattern, Word, literal_word}
use Rattle.tm_rules.specs.Types.{Args, NameUnion}
use Rattle.tm_rules.specs.Prelude.{is_literal}

-- the pattern of a name argument, where it is no group
abbrev pub pattern_of : NameUnion → Option Pattern
pattern_of (NameUnion.One pattern_) = Some pattern_
pattern_of (NameUnion.Group group) = None

-- the pattern of the first name argument of a line; of `misc env` its pattern
abbrev pub first_pattern : Args → Option Pattern
first_pattern (Args.Path n) = pattern_of n
first_pattern (Args.Execute n prefer) = pattern_of n
first_pattern (Args.PathNumber n k) = pattern_of n
first_pattern (Args.Device n mode major minor) = pattern_of n
first_pattern (Args.Path2 n m) = pattern_of n
first_pattern (Args.Mount device dir kind flags) = pattern_of device
first_pattern (Args.Inet kind addr port) = None
first_pattern (Args.Unix kind n) = pattern_of n
first_pattern (Args.Env pattern_) = Some pattern_
first_pattern (Args.Manual domain) = None

-- the name of a literal
abbrev pub literal_name : Pattern → Option Word
literal_name pattern_ = if is_literal pattern_ then Some (literal_word pattern_) else None

-- the name that the first name argument is, where it is a literal
unfoldable pub literal_of : Args → Option Word
literal_of args = option_and_then literal_name (first_pattern args)
