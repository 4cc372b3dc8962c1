use Rattle.std.proofs.Common.{refl}
use Rattle.tm_core.specs.Players.{course_of, player_of}
use Rattle.tm_core.proofs.play.into_run.Goals as goal

pub returns-clause-run : goal.returns-clause-run
unfolding course_of player_of
returns-clause-run g c = rw (c.in_ok-steps.ensures.steps, c.in_ok-takes.ensures) refl

pub returns-clause-opening : goal.returns-clause-opening
unfolding course_of
returns-clause-opening g c = c.in_ok-steps.ensures.start

pub returns-clause-policy : goal.returns-clause-policy
unfolding course_of
returns-clause-policy g c = c.in_ok-steps.ensures.policy
