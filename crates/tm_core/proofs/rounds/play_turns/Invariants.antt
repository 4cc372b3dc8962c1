use Rattle.std.specs.Prelude.{◌≡◌, take}
use Rattle.tm_rules.specs.Prelude.{Trace}
use Rattle.tm_desk.specs.Desks.{desk_book}
use Rattle.tm_core.specs.Scenes.{scene_of, IsReached}
use Rattle.tm_core.specs.Rounds.{HasPlayed}
use Rattle.tm_core.specs.Players.{course_of, player_of}
use Rattle.tm_core.proofs.rounds.play_turns.Given as goal

abbrev pub invariant-loop-turn : goal.invariant-loop-turn
invariant-loop-turn g l =
    ((trace : Trace) × IsReached trace (desk_book l.desk) (course_of l.player) (player_of l.player))
    × ((trace : Trace) → IsReached trace (desk_book l.desk) (course_of l.initial.player) (player_of l.initial.player) → IsReached trace (desk_book l.desk) (course_of l.player) (player_of l.player))
    × ((trace : Trace) → IsReached trace (desk_book l.desk) (course_of l.initial.player) (player_of l.initial.player)
    → HasPlayed (scene_of (course_of l.initial.player).start trace (desk_book l.desk)) (player_of l.initial.player) (player_of l.player) (take l.turn-index l.turns) l.moved)
    × ((course_of l.player).start ≡ (course_of l.initial.player).start)
