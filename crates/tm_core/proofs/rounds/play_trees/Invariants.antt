use Rattle.std.specs.Prelude.{◌≡◌, take, map}
use Rattle.tm_rules.specs.Types.{Book, Turn}
use Rattle.tm_rules.specs.Prelude.{Trace}
use Rattle.tm_core.specs.Scenes.{scene_of, IsReached}
use Rattle.tm_core.specs.Rounds.{HasPlayed}
use Rattle.tm_core.specs.Players.{course_of, player_of}
use Rattle.tm_core.specs.Resting.{OthersRest}
use Rattle.tm_core.proofs.rounds.play_trees.Given as goal

abbrev pub invariant-loop-number : goal.invariant-loop-number
invariant-loop-number g l =
    ((trace : Trace) × (book : Book) × IsReached trace book (course_of l.player) (player_of l.player))
    × ((trace : Trace) (book : Book) → IsReached trace book (course_of l.initial.player) (player_of l.initial.player) → IsReached trace book (course_of l.player) (player_of l.player))
    × ((trace : Trace) (book : Book) → IsReached trace book (course_of l.initial.player) (player_of l.initial.player)
    → HasPlayed (scene_of (course_of l.initial.player).start trace book) (player_of l.initial.player) (player_of l.player) (map Turn.Tree (take l.number-index l.number-items)) l.moved)
    × ((course_of l.player).start ≡ (course_of l.initial.player).start)
    × OthersRest (course_of l.player).start (player_of l.player) l.awake
