use Rattle.tm_core.specs.Players.{course_of, player_of}
use Rattle.tm_tests_alone.proofs.OpenedLaws.{led-at-start}
use Rattle.tm_tests_alone.proofs.hands.play_by_hand.Goals as goal

pub make_turns-requires : goal.make_turns-requires
make_turns-requires g c =
    (c.args.trace, c.requires.0, led-at-start c.args.trace c.requires.0 c.args.machine (course_of c.in_ok-player.player) (player_of c.in_ok-player.player) c.requires.1 c.in_ok-player.ensures.machine c.in_ok-player.ensures.starts)
