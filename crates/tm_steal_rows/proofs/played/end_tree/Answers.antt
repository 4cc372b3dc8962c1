use Rattle.std.proofs.Common.{refl}
use Rattle.tm_rules.specs.Types.{Made, Maker, Step}
use Rattle.tm_steal_rows.proofs.Stealing.{end-fits, steals-end}
use Rattle.tm_steal_rows.proofs.played.end_tree.Goals as goal

pub settle-requires : goal.settle-requires
settle-requires g c =
    record { fits = end-fits (g.S.Seat.opening c.args.seat.now) (g.S.Seat.at c.args.seat.now) c.args.tree c.requires.above c.requires.inside }

pub returns-clause-steals : goal.returns-clause-steals
returns-clause-steals g c trace =
    let a = c.args in
    let e = c.in_ok-number.ensures in
    let made : Made = record { maker = Maker.Tree c.args.tree; step = Step.End c.args.tree } in
    steals-end (g.S.Seat.opening a.seat.now) trace (g.S.Seat.at a.seat.now) (g.S.Seat.at c.settle.new.self) (g.S.Seat.own a.seat.now) (g.S.Seat.own c.settle.new.self) a.tree c.in_ok-number.field-0.number made c.in_ok-number.field-0.reply
    refl refl e.settled e.number e.noted
