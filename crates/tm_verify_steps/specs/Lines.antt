-- The lines that editors have had.
use Rattle.std.specs.Prelude.{◌≡◌, ◌<◌, ◌==◌, ◌&&◌, ⊤, Bool, true, false, ℕ, zero, suc, List, [], ◌∷◌, length, Option, Some, slice_get}
use Rattle.std.specs.Option.{option_and_then}
use Rattle.tm_word.specs.Prelude.{Text}
use Rattle.tm_rules.specs.Types.{Editor, FileKind, Step}
use Rattle.tm_rules.specs.Prelude.{changed_at, numbered}
use Rattle.tm_legal.specs.Prelude.{History, Scene, lines_of_editor, times_owned}

-- how many lines each editor has had after these steps
abbrev pub HasHad : Scene → History → List ℕ → Type 0
HasHad scene before had =
    (k : ℕ) → k < length scene.editors
    → slice_get had k ≡ Some (length (lines_of_editor (suc k) before))

-- the line that is next, where editors have had so many
abbrev pub next_line : List Editor → List ℕ → ℕ → Option (FileKind × Text)
next_line editors had e =
    option_and_then
    (λ (editor : Editor). option_and_then (λ n. slice_get editor.lines n) (numbered had e))
    (numbered editors e)

-- a step that is an edit is that line
abbrev pub IsDue : List Editor → List ℕ → Step → Type 0
IsDue editors had (Step.Edit e file line) = next_line editors had e ≡ Some (file, line)
IsDue editors had (Step.Learn d entry) = ⊤
IsDue editors had (Step.Make d name) = ⊤
IsDue editors had (Step.Fail d) = ⊤
IsDue editors had (Step.Ask d retry line) = ⊤
IsDue editors had (Step.Answer serial code) = ⊤
IsDue editors had Step.Attach = ⊤
IsDue editors had Step.Detach = ⊤
IsDue editors had (Step.End t) = ⊤

-- an editor has had one line more
abbrev pub line_had : ℕ → List ℕ → List ℕ
line_had zero had = had
line_had (suc k) had = changed_at k suc had

-- after this step
abbrev pub had_after : List ℕ → Step → List ℕ
had_after had (Step.Edit e file line) = line_had e had
had_after had (Step.Learn d entry) = had
had_after had (Step.Make d name) = had
had_after had (Step.Fail d) = had
had_after had (Step.Ask d retry line) = had
had_after had (Step.Answer serial code) = had
had_after had Step.Attach = had
had_after had Step.Detach = had
had_after had (Step.End t) = had

-- a step is owned so often, has its reply, and is its editor's next line
abbrev pub IsInPlace : List Editor → ℕ → Bool → List ℕ → Step → Type 0
IsInPlace editors count replied had step =
    (count ≡ times_owned (Some step)) × (replied ≡ true) × IsDue editors had step

-- each editor has had all its lines
abbrev pub have_all : List Editor → List ℕ → Bool
have_all [] had = true
have_all (editor ∷ editors) [] = false
have_all (editor ∷ editors) (n ∷ had) = n == length editor.lines && have_all editors had
