-- The words of a domain name in a line, and the words that may follow one.
use Rattle.std.specs.Prelude.{◌==◌, Bool, true, not, List, [], ◌∷◌}
use Rattle.std.specs.List.{slice_split}
use Rattle.tm_word.specs.Prelude.{Text, begins_with_byte}
use Rattle.tm_domain.specs.Words.{DomainName}

-- what stands between the spaces of a name
abbrev pub domain_parts : DomainName → List Text
domain_parts name = slice_split (λ b. b == 32) name

-- the first of these words, if there is one, doesn't go on with a domain name
abbrev pub ends_domain : List Text → Bool
ends_domain [] = true
ends_domain (word ∷ words) = not (begins_with_byte 47 word)
