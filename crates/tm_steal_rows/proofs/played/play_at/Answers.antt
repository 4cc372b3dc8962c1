use Rattle.std.proofs.Common.{◌∷◌, [], sym, subst}
use Rattle.tm_rules.specs.Types.{Take}
use Rattle.tm_steal_rows.specs.Playing.{Event, StealsOn}
use Rattle.tm_steal_rows.proofs.Stealing.{steals-take}
use Rattle.tm_steal_rows.proofs.played.play_at.Goals as goal

pub returns-clause-steals : goal.returns-clause-steals
returns-clause-steals g c trace asked =
    let a = c.args in
    let begun = c.begin.ensures in
    subst (λ (taken : Take). StealsOn (g.S.Seat.opening a.seat.now) trace (g.S.Seat.at a.seat.now) (g.S.Seat.own a.seat.now) (g.S.Seat.at c.play_if_there.new.seat) (g.S.Seat.own c.play_if_there.new.seat) (Event.Take (record { place = a.place; stood = a.now; since = c.in-Some.since; take = taken }) ∷ [])) (sym c.new.ensures)
    (steals-take (g.S.Seat.opening a.seat.now) trace (g.S.Seat.opening c.begin.new.self) (g.S.Seat.at a.seat.now) (g.S.Seat.at c.begin.new.self) (g.S.Seat.at c.play_if_there.new.seat) (g.S.Seat.own a.seat.now) (g.S.Seat.own c.begin.new.self) (g.S.Seat.own c.play_if_there.new.seat) a.place c.in-Some.since a.domain a.now a.request c.in-Some.take c.in_ok-take.field-0
    begun.opening begun.at begun.own c.in_ok-take.ensures.grows asked c.in-Some.is c.in_ok-take.ensures.ended)
