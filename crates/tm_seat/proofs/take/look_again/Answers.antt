use Rattle.std.proofs.Common.{◌∙◌, ap}
use Rattle.tm_rules.specs.Prelude.{is_request}
use Rattle.tm_take.specs.Tomoyo.{tomoyo_grammar}
use Rattle.tm_seat.proofs.TakeEvents.{playing-there, again-ok}
use Rattle.tm_seat.proofs.take.look_again.Goals as goal

pub look-requires-clause-asked : goal.look-requires-clause-asked
look-requires-clause-asked g c =
    let (errand, h) = c.requires.playing in
    ap (is_request tomoyo_grammar.is_path) c.in_ok-pending.ensures.request
    ∙ (playing-there (g.S.Seat.opening c.args.seat.now) c.requires.opened errand (g.S.Seat.at c.args.seat.now) (g.S.Seat.own c.args.seat.now) c.args.attempt h).1

pub look-requires-clause-there : goal.look-requires-clause-there
look-requires-clause-there g c =
    let (errand, h) = c.requires.playing in
    rw c.before-domain.ensures (playing-there (g.S.Seat.opening c.args.seat.now) c.requires.opened errand (g.S.Seat.at c.args.seat.now) (g.S.Seat.own c.args.seat.now) c.args.attempt h).0

pub returns-clause-playing : goal.returns-clause-playing
returns-clause-playing g c =
    again-ok (g.S.Seat.opening c.args.seat.now) c.requires.opened (g.S.Seat.opening c.look.new.seat) (g.S.Seat.at c.args.seat.now) (g.S.Seat.at c.look.new.seat) (g.S.Seat.own c.args.seat.now) (g.S.Seat.own c.look.new.seat) c.args.attempt c.look.result c.in_ok-pending.pending c.before-domain.result
    c.look.ensures.opening c.look.ensures.grows c.look.ensures.own c.look.ensures.fitted c.requires.looking c.before-domain.ensures c.in_ok-pending.ensures c.look.ensures.looked
