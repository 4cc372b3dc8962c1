use Rattle.std.specs.Prelude.{◌≡◌, length}
use Rattle.tm_take.specs.Situations.{situation_of}
use Rattle.tm_seat.specs.Playing.{Errand, IsPlaying}
use Rattle.tm_seat.proofs.TakeEvents.{found-so, ended-same}
use Rattle.tm_seat.proofs.take.play_if_there.Goals as goal

pub returns-in_ok-take-in-Some-clause-ended : goal.returns-in_ok-take-in-Some-clause-ended
returns-in_ok-take-in-Some-clause-ended g c =
    let looked = c.look_if_there.new.seat in
    let start = g.S.Seat.opening c.args.seat.now in
    let known = g.S.Seat.at looked in
    let errand : Errand = record { now = situation_of c.args.now; domain = c.args.domain; request = c.args.request; known = known; before = g.S.Seat.own c.args.seat.now } in
    let version = found-so (λ b. b.1 ≡ length known) c.in_ok-attempt.field-0 (c.in-Some.attempt, c.in-Some.version) c.in-Some.is c.in_ok-attempt.ensures.version in
    let playing = found-so (λ b. IsPlaying start errand known (g.S.Seat.own looked) b.0) c.in_ok-attempt.field-0 (c.in-Some.attempt, c.in-Some.version) c.in-Some.is c.in_ok-attempt.ensures.playing in (
      known,
      version,
      c.in_ok-attempt.ensures.grows,
      ended-same start (g.S.Seat.opening looked) errand known (g.S.Seat.at c.play_on.new.seat) (g.S.Seat.own looked) (g.S.Seat.own c.play_on.new.seat) c.in-Some.attempt c.in_ok-take-in-Some.take
          c.in_ok-attempt.ensures.opening c.requires.stands playing c.in_ok-take-in-Some.ensures.ended,
    )
