use Rattle.tm_core.specs.Players.{course_of, player_of}
use Rattle.tm_core.proofs.PlayerLaws.{led-goes, stays-led}
use Rattle.tm_core.proofs.player.step_alone.Goals as goal

pub step-requires : goal.step-requires
step-requires g c = let (trace, book, led) = c.requires in led-goes trace book (course_of c.args.player.now) (player_of c.args.player.now) led

pub returns-clause-led : goal.returns-clause-led
returns-clause-led g c =
    stays-led (course_of c.args.player.now) (course_of c.step.new.player) (player_of c.args.player.now) (player_of c.step.new.player) c.args.turn c.step.result c.step.ensures.start c.step.ensures.event
