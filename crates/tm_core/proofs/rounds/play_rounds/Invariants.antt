use Rattle.std.specs.Prelude.{◌≡◌, ℕ, if◌then◌else◌, Some, None}
use Rattle.tm_rules.specs.Prelude.{Trace}
use Rattle.tm_desk.specs.Desks.{desk_book}
use Rattle.tm_legal.specs.Prelude.{left_with, retries_of, rounds}
use Rattle.tm_core.specs.Scenes.{scene_of, IsReached}
use Rattle.tm_core.specs.Players.{course_of, player_of}
use Rattle.tm_core.specs.Resting.{OthersRest}
use Rattle.tm_core.proofs.rounds.play_rounds.Given as goal

abbrev pub invariant-loop-awake : goal.invariant-loop-awake
invariant-loop-awake g l =
    ((trace : Trace) × IsReached trace (desk_book l.desk) (course_of l.player) (player_of l.player))
    × ((trace : Trace) → IsReached trace (desk_book l.desk) (course_of l.initial.player) (player_of l.initial.player)
    → (n : ℕ) × IsReached trace (desk_book l.desk) (course_of l.player) (player_of l.player)
    × (player_of l.player ≡ rounds (scene_of (course_of l.initial.player).start trace (desk_book l.desk)) (player_of l.initial.player) n))
    × ((course_of l.player).start ≡ (course_of l.initial.player).start)
    × OthersRest (course_of l.player).start (player_of l.player) l.awake

-- what is left to do
abbrev pub decreases-loop-awake : goal.decreases-loop-awake
decreases-loop-awake g l = left_with (retries_of (if (course_of l.initial.player).start.desk then Some (desk_book l.desk) else None)) (player_of l.player)
