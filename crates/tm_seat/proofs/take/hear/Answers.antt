use Rattle.tm_seat.proofs.TakeEvents.{hears-ok}
use Rattle.tm_seat.proofs.take.hear.Goals as goal

pub returns-in-Ok-clause-playing : goal.returns-in-Ok-clause-playing
returns-in-Ok-clause-playing g c =
    hears-ok (g.S.Seat.opening c.args.seat.now) c.requires.opened (g.S.Seat.opening c.hear.new.self) (g.S.Seat.at c.args.seat.now) (g.S.Seat.at c.hear.new.self) (g.S.Seat.own c.args.seat.now) (g.S.Seat.own c.hear.new.self) c.args.attempt c.after_answer.result c.args.serial c.in-Ok.version c.in-Ok.answer
    c.hear.ensures.opening c.hear.ensures.grows c.hear.ensures.own c.in-Ok.ensures.fitted c.requires.waits c.in-Ok.ensures.answer c.in-Ok.ensures.version c.after_answer.ensures
