use Rattle.tm_seat.proofs.Jointly.{replayed-legal}
use Rattle.tm_seat.proofs.law.replayed_runs_are_legal.Goals as goal

pub returns : goal.returns
returns c = replayed-legal
