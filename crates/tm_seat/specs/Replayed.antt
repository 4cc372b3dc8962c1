-- A trace that was replayed in parts, and the run that its parts have made.
use Rattle.std.specs.Prelude.{◌≡◌, ◌<◌, ℕ, List, length, map, Some, None, if◌then◌else◌, slice_get}
use Rattle.tm_rules.specs.Types.{Book, Made, Run, Start}
use Rattle.tm_rules.specs.Prelude.{Trace}
use Rattle.tm_take.specs.Written.{IsTrace}
use Rattle.tm_legal.specs.Prelude.{CanPlay, Legal, NoLookBeforeAttach, Scene}
use Rattle.tm_made.specs.Made.{history_made}
use Rattle.tm_joint.specs.Joint.{takes_in}
use Rattle.tm_seat.specs.declared.tree.PlayedTree.{PlayedTree}
use Rattle.tm_seat.specs.declared.tree.TreeToPlay.{TreeToPlay}
use Rattle.tm_seat.specs.Seats as seat
use Rattle.tm_seat.specs.Rows.{row_of}
use Rattle.tm_seat.specs.Dealing.{hand_of, IsGathered}
use Rattle.tm_seat.specs.Parts.{trees_from, WorkerDid, PlayedTogether}

-- what an opening plays with a trace; the book counts where a supervisor stands
abbrev pub scene_of : Start → Trace → Book → Scene
scene_of start trace book = seat.scene_of start trace (if start.desk then Some book else None)

-- the workers' hands, by their number: each tree of the trace is in one
pub record AreDealt (start : Start) (trace : Trace) (workers : ℕ) (hands : List (List TreeToPlay)) : Type 0 where
  pub count : length hands ≡ workers
  pub each : (worker : ℕ) → worker < workers
      → slice_get hands worker ≡ Some (hand_of workers worker (trees_from start.policy 1 trace))

-- all trees of the trace were played by so many workers together, and their rows were gathered
pub record Replayed (start : Start) (trace : Trace) (book : Book) (workers : ℕ) (list : List Made)
    (rows : List PlayedTree) : Type 0 where
  pub hands : List (List TreeToPlay)
  pub dealt : AreDealt start trace workers hands
  pub given : List (List PlayedTree)
  pub played : PlayedTogether WorkerDid start book hands list given
  pub gathered : IsGathered (length trace) given rows

-- the run of these steps and rows
abbrev pub run_of : Start → Trace → Book → List Made → List PlayedTree → Run
run_of start trace book list rows =
    record { steps = history_made (scene_of start trace book) list; takes = takes_in (map row_of rows) }

-- what was replayed is a legal run, in whatever order its steps came, and no look is older than the
-- supervisor's coming
abbrev pub ReplayedRunsAreLegal : Type 0
ReplayedRunsAreLegal =
    (start : Start) (trace : Trace) (book : Book) (workers : ℕ) (list : List Made) (rows : List PlayedTree)
    → IsTrace trace → length trace ≡ start.trees → CanPlay (scene_of start trace book)
    → Replayed start trace book workers list rows
    → Legal (scene_of start trace book) (run_of start trace book list rows)
    × NoLookBeforeAttach (run_of start trace book list rows)
