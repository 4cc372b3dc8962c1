use Rattle.tm_seat.proofs.TakeEvents.{begins-ok}
use Rattle.tm_seat.proofs.take.first_look.Goals as goal

pub returns-clause-playing : goal.returns-clause-playing
returns-clause-playing g c =
    begins-ok (g.S.Seat.opening c.args.seat.now) c.requires.opened (g.S.Seat.opening c.look.new.seat) (g.S.Seat.at c.args.seat.now) (g.S.Seat.at c.look.new.seat) (g.S.Seat.own c.args.seat.now) (g.S.Seat.own c.look.new.seat) c.args.now c.args.domain c.args.request c.first-pending.result c.look.result
    c.first-pending.ensures c.requires.stands c.requires.there c.requires.asked c.look.ensures.opening c.look.ensures.grows c.look.ensures.own c.look.ensures.fitted c.look.ensures.looked
