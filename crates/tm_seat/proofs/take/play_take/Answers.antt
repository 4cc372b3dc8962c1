use Rattle.tm_take.specs.Situations.{situation_of}
use Rattle.tm_seat.proofs.TakeEvents.{ended-ok}
use Rattle.tm_seat.proofs.take.play_take.Goals as goal

pub returns-clause-ended : goal.returns-clause-ended
returns-clause-ended g c =
    ended-ok (g.S.Seat.opening c.args.seat.now) (g.S.Seat.opening c.first_look.new.seat) (record { now = situation_of c.args.now; domain = c.args.domain; request = c.args.request; known = g.S.Seat.at c.args.seat.now; before = g.S.Seat.own c.args.seat.now }) (g.S.Seat.at c.first_look.new.seat) (g.S.Seat.at c.play_on.new.seat) (g.S.Seat.own c.first_look.new.seat) (g.S.Seat.own c.play_on.new.seat) c.in_ok-attempt.attempt c.play_on.result
    c.in_ok-attempt.ensures.opening c.requires.stands c.in_ok-attempt.ensures.playing c.play_on.ensures.ended
