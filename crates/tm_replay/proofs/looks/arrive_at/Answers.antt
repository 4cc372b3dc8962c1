use Rattle.tm_replay.proofs.Passes.{knows-fit}
use Rattle.tm_replay.proofs.looks.arrive_at.Goals as goal

pub returns-clause-fitted : goal.returns-clause-fitted
returns-clause-fitted g c =
    knows-fit c.args.pass.now c.arrive-found.new.pass c.arrive-found.ensures.opening c.arrive-found.ensures.fitting
