-- With which step the steps of a run have no place.
use Rattle.std.specs.Prelude.{◌≡◌, ◌↔◌, ℕ, suc, ◌⊎◌, ⊤, [], length, Some, IsSome, slice_get}
use Rattle.std.specs.List.{AllByRecursion}
use Rattle.tm_rules.specs.Types.{Editor, Reply, Run, Step}
use Rattle.tm_rules.specs.Prelude.{numbered}
use Rattle.tm_legal.specs.Prelude.{History, Scene, StepsHavePlaces, apply, lines_of_editor, newest, own_numbers, step_at, times, times_owned}
use Rattle.tm_verify_laws.specs.First.{AllAfter, FirstFailsAfter}

-- an edit is its editor's next line after these steps
abbrev pub IsNextLine : Scene → History → Step → Type 0
IsNextLine scene before (Step.Edit e file line) = (editor : Editor) × (numbered scene.editors e ≡ Some editor) × (slice_get editor.lines (length (lines_of_editor e before)) ≡ Some (file, line))
IsNextLine scene before _ = ⊤

-- owned as often as its kind asks, the next line of its editor, and with the reply that it has
-- there
pub record IsPlaced (scene : Scene) (run : Run) (before : History) (pair : Step × Reply) : Type 0 where
  pub own : times (suc (length before)) (own_numbers run.takes) ≡ times_owned (Some pair.0)
  pub next : IsNextLine scene before pair.0
  pub reply : (apply scene.grammar (newest scene before) pair.0).reply ≡ Some pair.1

-- no editor's line is missing
abbrev pub NoLineMissing : Scene → History → Type 0
NoLineMissing scene history =
    (e : ℕ) (editor : Editor) → numbered scene.editors e ≡ Some editor
    → lines_of_editor e history ≡ editor.lines

-- the least step without its place; 0 where only lines are missing
abbrev pub PlacesFail : Scene → Run → ℕ → Type 0
PlacesFail scene run k =
    FirstFailsAfter (IsPlaced scene run) [] run.steps k
    ⊎ ((k ≡ 0) × AllAfter (IsPlaced scene run) [] run.steps
    × ¬ NoLineMissing scene run.steps)

-- each own number is that of a step, as it is where the own steps are those that verdicts ask for
abbrev pub OwnAreSteps : Run → Type 0
OwnAreSteps run = AllByRecursion (λ number. IsSome (step_at run.steps number)) (own_numbers run.takes)

-- where each own number is a step's, steps have their places exactly where each is placed and no
-- line is missing
abbrev pub PlacesDecide : Type 0
PlacesDecide =
    (scene : Scene) (run : Run) → OwnAreSteps run
    → (AllAfter (IsPlaced scene run) [] run.steps × NoLineMissing scene run.steps)
    ↔ StepsHavePlaces scene run
