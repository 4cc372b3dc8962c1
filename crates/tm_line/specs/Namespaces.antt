-- The namespace word that a policy line may begin with.
use Rattle.std.specs.Prelude.{◌≡◌, ◌==◌, Bool, if◌then◌else◌, List, [], ◌∷◌, ◌++◌, Result, Ok, Err}
use Rattle.std.specs.List.{list_any}
use Rattle.tm_word.specs.Prelude.{Text, begins_with_byte, ◌>>=◌}
use Rattle.tm_domain.specs.LineKind.{LineKind}
use Rattle.tm_domain.specs.Policy.{kernel}
use Rattle.tm_domain.specs.Names.{domain_of}
use Rattle.tm_line.specs.Lines.{spaced}
use Rattle.tm_line.specs.Arguments.{kinded}

-- only a namespace word begins with `<`
abbrev pub opens : Text → Bool
opens word = begins_with_byte 60 word

-- a domain name of one word
unfoldable pub namespace_of : Text → Result Text LineKind
namespace_of word =
    if list_any (λ b. b == 32) word then Err LineKind.Domain
    else kinded LineKind.Domain (domain_of word)

-- the namespace of a line, and the words after its namespace word; without one it is `<kernel>`
unfoldable pub namespace_at : List Text → Result (Text × List Text) LineKind
namespace_at [] = Ok (kernel, [])
namespace_at (word ∷ words) =
    if opens word then (namespace_of word >>= λ name. Ok (name, words))
    else Ok (kernel, word ∷ words)

-- a printed line begins with the namespace word, has its words after one space each, and ends with
-- byte 10
abbrev pub line_text : Text → List Text → Text
line_text ns words = ns ++ (spaced words ++ 10 ∷ [])

-- a word that names a namespace
abbrev pub IsNamespace : Text → Type 0
IsNamespace word = namespace_at (word ∷ []) ≡ Ok (word, [])
