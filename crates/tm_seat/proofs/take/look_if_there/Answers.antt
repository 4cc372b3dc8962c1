use Rattle.tm_seat.specs.Seats.{ShowsAt}
use Rattle.tm_seat.proofs.TakeEvents.{found-so, found-playing}
use Rattle.tm_seat.proofs.take.look_if_there.Goals as goal

pub returns-in_ok-attempt-in-Ok-Some-clause-playing : goal.returns-in_ok-attempt-in-Ok-Some-clause-playing
returns-in_ok-attempt-in-Ok-Some-clause-playing g c =
    let start = g.S.Seat.opening c.judge_if_there.new.self in
    let list = g.S.Seat.at c.judge_if_there.new.self in
    let shows = found-so (λ j. ShowsAt start list c.args.domain c.args.now.process c.args.request j.0 j.1) c.in-Ok-Some.field-0 (c.in-Ok-Some.shown, c.in-Ok-Some.version) c.in-Ok-Some.field-0-is c.in-Ok-Some.ensures.shows in
    found-playing (g.S.Seat.opening c.args.seat.now) c.requires.opened start list (g.S.Seat.own c.args.seat.now) (g.S.Seat.own c.judge_if_there.new.self) c.args.now c.args.domain c.args.request c.first-pending.result c.in-Ok-Some.shown c.in-Ok-Some.version c.in_ok-attempt-in-Ok-Some.attempt
    c.first-pending.ensures c.requires.stands c.requires.asked c.judge_if_there.ensures.opening c.judge_if_there.ensures.own c.in-Ok-Some.ensures.fitted shows c.in_ok-attempt-in-Ok-Some.ensures
