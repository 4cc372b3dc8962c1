use Rattle.std.proofs.Common.{rules, ◌≡◌, ◌++◌, ◌∷◌, ◌∙◌, [], sym, ap}
use Rattle.std.specs.Prelude.{Some}
use Rattle.tm_rules.specs.Prelude.{Trace}
use Rattle.tm_steal_rows.specs.declared.played.PlayedTake.{PlayedTake}
use Rattle.tm_steal_rows.specs.Playing.{Event, StealsOn}
use Rattle.tm_steal_rows.specs.Records.{request_at}
use Rattle.tm_steal.proofs.Going.{found-so, with-more}
use Rattle.tm_steal.proofs.thief.play_request.Goals as goal

pub returns-clause-steals : goal.returns-clause-steals
returns-clause-steals g c =
    let start = g.S.Seat.opening c.args.seat.now in
    let trace = c.args.board.now.trace.now in
    let found = c.in_ok-taken.field-0 in
    let taken = c.in-Some-2.taken in
    let pushed : c.push.new.self.items ≡ c.args.takes.now.items ++ taken ∷ [] = search rules in
    let steals = found-so (λ (played : PlayedTake). (t : Trace) → request_at t c.args.place ≡ Some c.in_ok-request.request → StealsOn start t (g.S.Seat.at c.args.seat.now) (g.S.Seat.own c.args.seat.now) (g.S.Seat.at c.play_at.new.seat) (g.S.Seat.own c.play_at.new.seat) (Event.Take played ∷ [])) found taken c.in-Some-2.is c.in_ok-taken.ensures.steals in
    let placed = found-so (λ (played : PlayedTake). (played.place ≡ c.args.place) × (played.stood ≡ c.args.now)) found taken c.in-Some-2.is c.in_ok-taken.ensures.placed in
    with-more start trace c.args.now.process.pid (g.S.Seat.at c.args.seat.now) (g.S.Seat.at c.play_at.new.seat)
    (g.S.Seat.own c.args.seat.now) (g.S.Seat.own c.play_at.new.seat) c.args.takes.now.items c.push.new.self.items taken
    (steals trace (c.requires.there ∙ ap Some (sym c.in_ok-request.ensures.same))) pushed (ap (λ stood. stood.process.pid) placed.1)
