use Rattle.std.proofs.Common.{◌∙◌}
use Rattle.tm_seat.proofs.Opening.{begins-further}
use Rattle.tm_seat.proofs.TakeEvents.{ends-ok, carries}
use Rattle.tm_seat.proofs.take.play_on.Goals.{in-OwnStep+in_ok-attempt-in-OwnStep, in-Answer+in_ok-attempt-in-Answer, in-Look+in_ok-attempt-in-Look}
use Rattle.tm_seat.proofs.take.play_on.Goals as goal

pub returns-in-End-clause-ended : goal.returns-in-End-clause-ended
returns-in-End-clause-ended g c =
    ends-ok (g.S.Seat.opening c.args.seat.now) c.requires.opened (g.S.Seat.at c.args.seat.now) (g.S.Seat.at c.loop.seat) (g.S.Seat.own c.args.seat.now) (g.S.Seat.own c.loop.seat) c.args.attempt c.loop.attempt c.end.result
    c.loop.invariant.2 c.in-End.ensures c.end.ensures

pub loop-preserved : goal.loop-preserved
loop-preserved g c =
    elim c.match-next_event.branch [
      | in-OwnStep+in_ok-attempt-in-OwnStep w ↦
          rw (w.seat-is, w.attempt-is) (
            w.in_ok-attempt-in-OwnStep.ensures.opening ∙ c.loop.invariant.0,
            begins-further (g.S.Seat.at c.args.seat.now) (g.S.Seat.at c.loop.seat) (g.S.Seat.at w.own_step.new.seat) c.loop.invariant.1 w.in_ok-attempt-in-OwnStep.ensures.grows,
            (λ errand h. carries (g.S.Seat.opening c.args.seat.now) (g.S.Seat.opening c.loop.seat) errand (g.S.Seat.at c.loop.seat) (g.S.Seat.at w.own_step.new.seat) (g.S.Seat.own c.loop.seat) (g.S.Seat.own w.own_step.new.seat) c.loop.attempt w.in_ok-attempt-in-OwnStep.attempt c.loop.invariant.0 w.in_ok-attempt-in-OwnStep.ensures.playing (c.loop.invariant.2 errand h)),
          )
      | in-Answer+in_ok-attempt-in-Answer w ↦
          rw (w.seat-is, w.attempt-is) (
            w.in_ok-attempt-in-Answer.ensures.opening ∙ c.loop.invariant.0,
            begins-further (g.S.Seat.at c.args.seat.now) (g.S.Seat.at c.loop.seat) (g.S.Seat.at w.hear.new.seat) c.loop.invariant.1 w.in_ok-attempt-in-Answer.ensures.grows,
            (λ errand h. carries (g.S.Seat.opening c.args.seat.now) (g.S.Seat.opening c.loop.seat) errand (g.S.Seat.at c.loop.seat) (g.S.Seat.at w.hear.new.seat) (g.S.Seat.own c.loop.seat) (g.S.Seat.own w.hear.new.seat) c.loop.attempt w.in_ok-attempt-in-Answer.attempt c.loop.invariant.0 w.in_ok-attempt-in-Answer.ensures.playing (c.loop.invariant.2 errand h)),
          )
      | in-Look+in_ok-attempt-in-Look w ↦
          rw (w.seat-is, w.attempt-is) (
            w.in_ok-attempt-in-Look.ensures.opening ∙ c.loop.invariant.0,
            begins-further (g.S.Seat.at c.args.seat.now) (g.S.Seat.at c.loop.seat) (g.S.Seat.at w.look_again.new.seat) c.loop.invariant.1 w.in_ok-attempt-in-Look.ensures.grows,
            (λ errand h. carries (g.S.Seat.opening c.args.seat.now) (g.S.Seat.opening c.loop.seat) errand (g.S.Seat.at c.loop.seat) (g.S.Seat.at w.look_again.new.seat) (g.S.Seat.own c.loop.seat) (g.S.Seat.own w.look_again.new.seat) c.loop.attempt w.in_ok-attempt-in-Look.attempt c.loop.invariant.0 w.in_ok-attempt-in-Look.ensures.playing (c.loop.invariant.2 errand h)),
          )
    ]
