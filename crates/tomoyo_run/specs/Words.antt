-- The words of the command line.
use Rattle.std.specs.Prelude.{ℕ, Bool, false, if◌then◌else◌, List, [], ◌∷◌, codes}
use Rattle.std.specs.List.{list_any}
use Rattle.std.specs.Str.{bytes_eq}
use Rattle.tomoyo_run.specs.declared.command_line.Asked.{Asked}
use Rattle.tomoyo_run.specs.declared.command_line.Topic.{Topic}

-- a word is one of these
abbrev pub is_one_of : List ℕ → List (List ℕ) → Bool
is_one_of word others = list_any (λ other. bytes_eq word other) others

-- what one word alone asks for
abbrev pub asked_by : List ℕ → Asked
asked_by word =
    if is_one_of word (codes "help" ∷ codes "-h" ∷ codes "--help" ∷ []) then Asked.Help Topic.All
    else (if is_one_of word (codes "-V" ∷ codes "--version" ∷ []) then Asked.Version else Asked.Command)

-- the help of the command that a word names
abbrev pub help_of : List ℕ → Asked
help_of word =
    if is_one_of word (codes "print" ∷ []) then Asked.Help Topic.Print
    else (if is_one_of word (codes "step" ∷ []) then Asked.Help Topic.Step
    else (if is_one_of word (codes "learn" ∷ []) then Asked.Help Topic.Learn
    else (if is_one_of word (codes "replay" ∷ []) then Asked.Help Topic.Replay
    else (if is_one_of word (codes "gen" ∷ []) then Asked.Help Topic.Gen
    else (if is_one_of word (codes "verify" ∷ []) then Asked.Help Topic.Verify
    else (if is_one_of word (codes "sort" ∷ []) then Asked.Help Topic.Sort else Asked.Command))))))

-- what two words ask for: `COMMAND --help`, or `help COMMAND`
abbrev pub asked_by_two : List ℕ → List ℕ → Asked
asked_by_two word next =
    if is_one_of next (codes "-h" ∷ codes "--help" ∷ []) then help_of word
    else (if is_one_of word (codes "help" ∷ []) then help_of next else Asked.Command)

-- what the words ask for
abbrev pub what_is_asked : List (List ℕ) → Asked
what_is_asked [] = Asked.Command
what_is_asked (word ∷ []) = asked_by word
what_is_asked (word ∷ next ∷ []) = asked_by_two word next
what_is_asked (word ∷ next ∷ third ∷ words) = Asked.Command

-- the words name a command that plays on threads
abbrev pub wants_threads : List (List ℕ) → Bool
wants_threads [] = false
wants_threads (word ∷ words) = bytes_eq word (codes "replay")
