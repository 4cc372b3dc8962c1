use Rattle.std.proofs.Common.{refl}
use Rattle.tm_core.specs.Players.{course_of, player_of}
use Rattle.tm_core.proofs.play.end_play.Goals as goal

pub returns-clause-run : goal.returns-clause-run
unfolding course_of player_of
returns-clause-run g c = rw (c.in_ok-steps.ensures, c.in_ok-takes.ensures) refl

pub returns-clause-machine : goal.returns-clause-machine
unfolding course_of
returns-clause-machine g c = refl
