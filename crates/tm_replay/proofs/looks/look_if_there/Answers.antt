use Rattle.tm_publish.specs.Words.{known}
use Rattle.tm_replay.specs.Seats.{home_of}
use Rattle.tm_replay.proofs.Passes.{home-there, home-same, knows-fit, shows-ok}
use Rattle.tm_replay.proofs.looks.look_if_there.Goals as goal

pub returns-in-Ok-clause-fitted : goal.returns-in-Ok-clause-fitted
returns-in-Ok-clause-fitted g c =
    knows-fit c.args.pass.now c.look-looked.new.pass c.look-looked.ensures.opening c.in-Ok.ensures.fitting

pub returns-in-Ok-clause-shows : goal.returns-in-Ok-clause-shows
returns-in-Ok-clause-shows g c =
    let judged = c.in-Ok.ensures.judged (home_of c.args.pass.now) (home-there c.args.pass.now) in
    shows-ok (home_of c.args.pass.now) (home_of c.look-looked.new.pass) (known c.look-looked.new.pass) c.args.domain c.args.process.now c.args.request.now c.in-Ok.found c.in-Ok.version c.shown_if_there.result
    (home-same c.args.pass.now c.look-looked.new.pass c.look-looked.ensures.opening) judged.0 judged.1 c.shown_if_there.ensures.shown c.shown_if_there.ensures.version
