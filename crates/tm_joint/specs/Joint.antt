-- Runs that several passes have made jointly: what each activity knows of the one list of steps,
-- and the counts of all passes.
use Rattle.std.specs.Prelude.{◌≡◌, ℕ, ◌+◌, ◌≤◌, List, length, flat_map, Option, Some, sum_by}
use Rattle.std.specs.List.{AllByRecursion}
use Rattle.tm_rules.specs.Types.{Look, Made, Maker, Run, Step, Take}
use Rattle.tm_legal.specs.Prelude.{Legal, NoLookBeforeAttach, Scene, times}
use Rattle.tm_made.specs.Made.{history_made, IsFitted, made_step}
use Rattle.tm_joint.specs.Makers.{EachClaims}
use Rattle.tm_joint.specs.Played.{Row, row_own, RowHolds, EachRow, EditorDid, EachEditor, DeskActs}

-- the takes of all rows, in the order of the trace
abbrev pub takes_in : List Row → List Take
takes_in rows = flat_map (λ (row : Row). row.takes) rows

-- every step fits at its place; each activity's part holds; the passes have made as many steps as
-- there are, each those of its own makers; and what all passes have made is what all activities
-- have done
pub record Joint (scene : Scene) (list : List Made) (run : Run) : Type 0 where
  pub fitted : IsFitted scene list
  pub rows : List Row
  pub editors : List (List ℕ)
  pub desk : List ℕ
  pub each_row : EachRow (RowHolds scene list) 1 scene.trace rows
  pub each_editor : EachEditor (EditorDid list) 1 scene.editors editors
  pub desk_did : DeskActs scene list scene.book desk
  pub who : Maker → Option ℕ
  pub passes : List (List ℕ)
  pub claims : EachClaims who 0 list passes
  pub closed : length list ≡ sum_by (λ (numbers : List ℕ). length numbers) passes
  pub dealt : (n : ℕ)
      → times n (flat_map (λ (numbers : List ℕ). numbers) passes)
      ≡ times n (flat_map row_own rows)
      + times n (flat_map (λ (numbers : List ℕ). numbers) editors) + times n desk
  pub run_is : run ≡ record { steps = history_made scene list; takes = takes_in rows }

-- such a run is legal, in whatever order its steps came
abbrev pub JointRunsAreLegal : Type 0
JointRunsAreLegal =
    (scene : Scene) (list : List Made) (run : Run) → Joint scene list run → Legal scene run

-- where each look has seen the supervisor's coming, no look is older than it
abbrev pub AttachedFirst : Type 0
AttachedFirst =
    (scene : Scene) (list : List Made) (run : Run) (attach : ℕ) → Joint scene list run
    → made_step list attach ≡ Some Step.Attach
    → AllByRecursion (λ (t : Take). AllByRecursion (λ (look : Look). attach ≤ look.version) t.looks)
    run.takes
    → NoLookBeforeAttach run
