use Rattle.std.proofs.lemmas.Result.{IfOk-weaker}
use Rattle.tm_publish.specs.Words.{known}
use Rattle.tm_seat.specs.Seats.{FitsFrom}
use Rattle.tm_replay.specs.Seats.{home_of}
use Rattle.tm_replay.proofs.Passes.{knows-fit}
use Rattle.tm_replay.proofs.moves.hear_at.Goals as goal

pub returns-clause-fitted : goal.returns-clause-fitted
returns-clause-fitted g c =
    IfOk-weaker c.await_answer-heard.result _ (λ _. FitsFrom (home_of c.await_answer-heard.new.pass) (known c.await_answer-heard.new.pass))
    (λ heard done. knows-fit c.args.pass.now c.await_answer-heard.new.pass c.await_answer-heard.ensures.opening done.fitting)
    c.await_answer-heard.ensures.answer
