use Rattle.tm_legal.proofs.OwnTurns.{turns-are-own}
use Rattle.tm_legal.proofs.play_law.turns_are_own_turns.Goals as goal

pub returns : goal.returns
returns c = turns-are-own
