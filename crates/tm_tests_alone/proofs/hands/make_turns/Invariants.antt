use Rattle.tm_core.specs.Playing.{Led}
use Rattle.tm_tests_alone.proofs.hands.make_turns.Given as goal

abbrev pub invariant-loop-turn : goal.invariant-loop-turn
invariant-loop-turn g l = Led l.player
