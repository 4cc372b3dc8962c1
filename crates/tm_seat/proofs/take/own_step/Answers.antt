use Rattle.std.proofs.Common.{rules, refl}
use Rattle.tm_seat.proofs.TakeEvents.{playing-fits, steps-ok}
use Rattle.tm_seat.proofs.take.own_step.Goals as goal

pub settle-requires : goal.settle-requires
settle-requires g c =
    let (errand, h) = c.requires.playing in
    record { fits = playing-fits (g.S.Seat.opening c.args.seat.now) c.requires.opened errand (g.S.Seat.at c.args.seat.now) (g.S.Seat.own c.args.seat.now) c.args.attempt c.in-Some.step c.in-Some.ensures.rest h c.in-Some.ensures.owing }

pub returns-in-Ok-clause-playing : goal.returns-in-Ok-clause-playing
returns-in-Ok-clause-playing g c =
    steps-ok (g.S.Seat.opening c.args.seat.now) c.requires.opened (g.S.Seat.opening c.settle.new.self) (g.S.Seat.at c.args.seat.now) (g.S.Seat.at c.settle.new.self) (g.S.Seat.own c.args.seat.now) (g.S.Seat.own c.settle.new.self) c.args.attempt c.in-Some.left c.after_step.result c.in-Some.step _ c.in-Ok.field-0.number c.in-Ok.field-0.reply
    c.settle.ensures.opening c.in-Some.ensures refl (search rules) c.in-Ok.ensures.settled c.in-Ok.ensures.fitted c.in-Ok.ensures.number c.in-Ok.ensures.noted c.after_step.ensures
