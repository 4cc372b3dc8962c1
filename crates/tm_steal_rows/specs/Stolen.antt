-- A trace whose processes workers have taken from each other, and the run that they have made.
use Rattle.std.specs.Prelude.{◌≡◌, List, length}
use Rattle.tm_rules.specs.Types.{Book, Made, Start}
use Rattle.tm_rules.specs.Prelude.{Trace}
use Rattle.tm_legal.specs.Prelude.{CanPlay, Legal, NoLookBeforeAttach}
use Rattle.tm_seat.specs.declared.tree.PlayedTree.{PlayedTree}
use Rattle.tm_seat.specs.Parts.{PlayedTogether}
use Rattle.tm_seat.specs.Replayed.{scene_of, run_of}
use Rattle.tm_steal_rows.specs.declared.played.Played.{Played}
use Rattle.tm_steal_rows.specs.Playing.{HandDid}
use Rattle.tm_steal_rows.specs.Gathering.{homes_of, IsGathered}

-- workers with these hands have played together, and what they gave was gathered into these rows
pub record Stolen {H : Type 0} (start : Start) (trace : Trace) (book : Book) (hands : List H) (list : List Made)
    (rows : List PlayedTree) : Type 0 where
  pub given : List (List Played)
  pub played : PlayedTogether (HandDid trace) start book hands list given
  pub gathered : IsGathered trace (homes_of start.policy trace) start.desk given rows

-- such a run is legal, whoever has played which process and in whatever order its steps came, and
-- no look is older than the supervisor's coming
abbrev pub StolenRunsAreLegal : Type 0 → Type 0
StolenRunsAreLegal H =
    (start : Start) (trace : Trace) (book : Book) (hands : List H) (list : List Made) (rows : List PlayedTree)
    → length trace ≡ start.trees → CanPlay (scene_of start trace book)
    → Stolen start trace book hands list rows
    → Legal (scene_of start trace book) (run_of start trace book list rows)
    × NoLookBeforeAttach (run_of start trace book list rows)
