-- Reading a line of a script, word by word, up to the first wrong word: the kind that stands there
-- is the line's.
use Rattle.std.specs.Prelude.{ℕ, List, [], ◌∷◌, Option, Some, None, Result, Ok, Err}
use Rattle.tm_word.specs.Prelude.{Text, ◌>>=◌}
use Rattle.tm_number.specs.Numbers.{plain_of}
use Rattle.tm_rules.specs.Types.{ScriptKind}
use Rattle.tm_script.specs.declared.steps.KindFault.{KindFault}

-- the kind of a fault; want of memory has none
abbrev pub kind_cause : KindFault → Option ScriptKind
kind_cause KindFault.NoMemory = None
kind_cause (KindFault.Kind kind) = Some kind

-- a value in its grammar, or a fault of this kind
abbrev pub kinded : {A F : Type 0} → ScriptKind → Result A F → Result A ScriptKind
kinded kind (Ok x) = Ok x
kinded kind (Err fault) = Err kind

-- a value that is there, or a fault of this kind
abbrev pub or_kind : {A : Type 0} → ScriptKind → Option A → Result A ScriptKind
or_kind kind (Some x) = Ok x
or_kind kind None = Err kind

-- the first word as this reads it, and the words after it; no word is a missing one
abbrev pub word_at : {A : Type 0} → (Text → Result A ScriptKind) → List Text
    → Result (A × List Text) ScriptKind
word_at read [] = Err ScriptKind.Arity
word_at read (word ∷ words) = read word >>= λ x. Ok (x, words)

-- a plain number below a limit
unfoldable pub number_at : ℕ → List Text → Result (ℕ × List Text) ScriptKind
number_at limit words = word_at (λ word. or_kind ScriptKind.Number (plain_of limit word)) words

-- no word may be left
abbrev pub ended : {A : Type 0} → A → List Text → Result A ScriptKind
ended x [] = Ok x
ended x (word ∷ words) = Err ScriptKind.Arity
