use Rattle.std.proofs.Common.{List, sym, subst}
use Rattle.std.specs.List.{AllByRecursion}
use Rattle.tm_replay.specs.Rows.{Shift}
use Rattle.tm_steal_rows.specs.declared.played.Played.{Played}
use Rattle.tm_steal_rows.specs.Playing.{IsStealing, events_of, IsOfProcess}
use Rattle.tm_steal.proofs.thief.BoardWorkHandPlayed.work.Goals as goal

pub returns-in-Ok-clause-did : goal.returns-in-Ok-clause-did
returns-in-Ok-clause-did g c floor low =
    let start = g.S.Seat.opening c.args.seat.now in
    let trace = c.args.self.now.trace.now in
    let known = g.S.Seat.at c.args.seat.now in
    let own = g.S.Seat.own c.args.seat.now in
    let shift : Shift = record { known = known; before = own } in
    let begun : IsStealing start trace shift known own (events_of c.new-played.result.items) =
    subst (λ (all : List Played). IsStealing start trace shift known own (events_of all)) (sym c.new-played.ensures.items) (c.workers_steal_on.ensures.starts start trace known own) in
    let none : AllByRecursion IsOfProcess c.new-played.result.items = subst (AllByRecursion IsOfProcess) (sym c.new-played.ensures.items) tt in
    c.workers_steal_on.ensures.ends start trace shift floor (g.S.Seat.at c.play_hand.new.seat) (g.S.Seat.own c.play_hand.new.seat) c.play_hand.new.played.items c.requires.made low
    (c.in-Ok.ensures.steals.steals shift begun) (c.in-Ok.ensures.steals.whose none)
