-- Reading a line, word by word, up to the first word at which it can't go on: the kind that stands
-- there is the line's.
use Rattle.std.specs.Prelude.{◌&&◌, if◌then◌else◌, Bool, true, false, List, [], ◌∷◌, Option, Some, None, Result, Ok, Err}
use Rattle.std.specs.List.{flat_map}
use Rattle.tm_word.specs.Prelude.{Text, begins, texts_equal, ◌>>=◌}
use Rattle.tm_domain.specs.LineKind.{LineKind}
use Rattle.tm_domain.specs.LineFault.{LineFault}

-- the kind of a fault; want of memory has none
abbrev pub line_cause : LineFault → Option LineKind
line_cause LineFault.NoMemory = None
line_cause (LineFault.Kind kind) = Some kind

-- a value that is there, or a fault of this kind
abbrev pub or_kind : {A : Type 0} → LineKind → Option A → Result A LineKind
or_kind kind (Some x) = Ok x
or_kind kind None = Err kind

-- no word comes after
abbrev pub is_last : List Text → Bool
is_last [] = true
is_last (word ∷ words) = false

-- no word may be left
abbrev pub ended : {A : Type 0} → A → List Text → Result A LineKind
ended x [] = Ok x
ended x (word ∷ words) = Err LineKind.Arity

-- what a wrong word is where a keyword must stand: a missing rest where it is an unfinished one,
-- else a wrong keyword
abbrev pub keyword_kind : Bool → LineKind
keyword_kind unfinished = if unfinished then LineKind.Arity else LineKind.Keyword

-- the words after a keyword; an unfinished one as the last word is a missing word
abbrev pub keyword_at : Text → List Text → Result (List Text) LineKind
keyword_at keyword [] = Err LineKind.Arity
keyword_at keyword (word ∷ words) =
    if texts_equal word keyword then Ok words
    else Err (keyword_kind (is_last words && begins word keyword))

-- whether a word that may stand stands there, and the words after it
abbrev pub option_at : Text → List Text → Bool × List Text
option_at keyword [] = (false, [])
option_at keyword (word ∷ words) =
    if texts_equal word keyword then (true, words) else (false, word ∷ words)

-- the first word as this reads it, and the words after it; no word is a missing one
abbrev pub word_at : {A : Type 0} → (Text → Result A LineKind) → List Text
    → Result (A × List Text) LineKind
word_at read [] = Err LineKind.Arity
word_at read (word ∷ words) = read word >>= λ x. Ok (x, words)

-- each word after a space
abbrev pub spaced : List Text → Text
spaced words = flat_map (λ word. 32 ∷ word) words
