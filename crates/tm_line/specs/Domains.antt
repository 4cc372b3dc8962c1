-- Domain names in lines: a namespace word and the words after it.
use Rattle.std.specs.Prelude.{ℕ, List, [], ◌∷◌, take, drop, Result, Ok, Err}
use Rattle.std.specs.List.{prefix_len}
use Rattle.tm_word.specs.Prelude.{Text, begins_with_byte, joined, ◌>>=◌}
use Rattle.tm_domain.specs.LineKind.{LineKind}
use Rattle.tm_domain.specs.Words.{DomainName}
use Rattle.tm_domain.specs.Names.{domain_of}
use Rattle.tm_line.specs.Arguments.{kinded}

-- the words as one domain name
unfoldable pub domain_words : List Text → Result DomainName LineKind
domain_words words = kinded LineKind.Domain (domain_of (joined words))

-- how many words in front begin with `/`
abbrev pub paths_in : List Text → ℕ
paths_in words = prefix_len (begins_with_byte 47) words

-- a domain name that takes its namespace word and the words after it that begin with `/`
unfoldable pub domain_at : List Text → Result (DomainName × List Text) LineKind
domain_at [] = Err LineKind.Arity
domain_at (word ∷ words) =
    domain_words (word ∷ take (paths_in words) words)
    >>= λ name. Ok (name, drop (paths_in words) words)

-- a domain name that runs to the line's end
unfoldable pub domain_to_end : List Text → Result DomainName LineKind
domain_to_end [] = Err LineKind.Arity
domain_to_end (word ∷ words) = domain_words (word ∷ words)
