use Rattle.tm_publish.specs.Words.{known}
use Rattle.tm_replay.specs.Seats.{home_of}
use Rattle.tm_replay.proofs.Passes.{begins-of, home-there, fitted-from, knows-fit, looks-there}
use Rattle.tm_replay.proofs.looks.look_at.Goals as goal

pub shown-requires : goal.shown-requires
shown-requires g c =
    let start = home_of c.args.pass.now in
    let old = known c.args.pass.now in
    let new = known c.look-looked.new.pass in
    let is = home-there c.args.pass.now in
    rw (c.in-Ok.ensures.judged start is).0
    (looks-there start old new c.args.domain c.args.process.now c.args.request.now c.requires.opened
    (begins-of old new (c.seen-2.ensures.begins old (c.look-looked.ensures.knows old c.seen.ensures.known)))
    (fitted-from start new (c.in-Ok.ensures.fitting start is))
    c.requires.there
    c.requires.asked)

pub returns-in-Ok-clause-fitted : goal.returns-in-Ok-clause-fitted
returns-in-Ok-clause-fitted g c =
    knows-fit c.args.pass.now c.look-looked.new.pass c.look-looked.ensures.opening c.in-Ok.ensures.fitting
