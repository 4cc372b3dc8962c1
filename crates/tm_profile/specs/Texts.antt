-- Profiles as text: which ones a text can write, and what its lines give when they are read.
use Rattle.std.specs.Prelude.{◌≡◌, ℕ, ◌<◌, ◌^◌, true, if◌then◌else◌, List, [], ◌∷◌, Option, Some, None, Result, Ok, Err}
use Rattle.std.specs.List.{list_all}
use Rattle.std.specs.Option.{option_and_then}
use Rattle.tm_list.specs.Map.{Rises}
use Rattle.tm_word.specs.Prelude.{Text, is_word, joined, texts_equal, words_of}
use Rattle.tm_rules.specs.Types.{LineKind, Namespace, Profile, ProfileEffect, ProfileLine, slot_rank}
use Rattle.tm_rules.specs.Prelude.{profile_line}
use Rattle.tm_line.specs.Namespaces.{IsNamespace}
use Rattle.tm_profile.specs.Reading.{line_of}

-- a word that names a namespace
abbrev pub IsNamespaceWord : Text → Type 0
IsNamespaceWord word = (is_word word ≡ true) × IsNamespace word

-- a comment is made of words joined by one space
abbrev pub IsComment : Text → Type 0
IsComment comment = (words : List Text) × (list_all is_word words ≡ true) × (comment ≡ joined words)

-- the numbers fit, the comment is made of words, and the slots stand in their order
abbrev pub IsProfile : ℕ × Profile → Type 0
IsProfile numbered =
    (numbered.0 < 256) × (numbered.1.max_audit_log < 2 ^ 32)
    × (numbered.1.max_learning_entry < 2 ^ 32) × IsComment numbered.1.comment
    × Rises slot_rank numbered.1.slots

abbrev pub AreProfiles : List (ℕ × Profile) → Type 0
AreProfiles [] = Unit {0}
AreProfiles (profile ∷ profiles) = IsProfile profile × AreProfiles profiles

-- profiles that a text can write, by rising numbers
abbrev pub IsWritten : List (ℕ × Profile) → Type 0
IsWritten profiles = Rises (λ n. n) profiles × AreProfiles profiles

-- a limit, where it is written, fits
abbrev pub IsLimit : Option ℕ → Type 0
IsLimit None = Unit {0}
IsLimit (Some limit) = limit < 2 ^ 32

-- what a line says fits a profile
abbrev pub IsEffect : ProfileEffect → Type 0
IsEffect ProfileEffect.Version = Unit {0}
IsEffect (ProfileEffect.Comment n comment) = (n < 256) × IsComment comment
IsEffect (ProfileEffect.Preference n audit learning) = (n < 256) × IsLimit audit × IsLimit learning
IsEffect (ProfileEffect.Config n setting) = n < 256
IsEffect (ProfileEffect.Slot n slot setting) = n < 256

-- the namespace after a line of it; a line of another one, or outside the grammar, is refused
abbrev pub line_done : Result ProfileLine LineKind → Namespace → Option Namespace
line_done (Ok line) ns =
    if texts_equal line.namespace ns.name then Some (profile_line line.effect ns) else None
line_done (Err kind) ns = None

-- a line without words does nothing
abbrev pub words_into : List Text → Namespace → Option Namespace
words_into [] ns = Some ns
words_into (word ∷ words) ns = line_done (line_of (word ∷ words)) ns

-- the namespace after these lines, one by one
abbrev pub lines_into : List Text → Namespace → Option Namespace
lines_into [] ns = Some ns
lines_into (line ∷ lines) ns =
    option_and_then (λ after. lines_into lines after) (words_into (words_of line) ns)
