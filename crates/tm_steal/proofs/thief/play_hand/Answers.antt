use Rattle.std.proofs.Common.{refl}
use Rattle.tm_steal.proofs.Going.{goes-then, goes-ended}
use Rattle.tm_steal_rows.specs.Playing.{ends_from}
use Rattle.tm_steal.proofs.thief.play_hand.Goals as goal

pub returns-in_ok-end_trees-clause-steals : goal.returns-in_ok-end_trees-clause-steals
returns-in_ok-end_trees-clause-steals g c =
    let trace = c.args.board.now.trace.now in
    let start = g.S.Seat.opening c.args.seat.now in
    let mid = c.play_all.new.seat in
    let ended = c.in_ok-end_trees.ensures.ends in
    goes-then start trace start (g.S.Seat.at c.args.seat.now) (g.S.Seat.at mid) (g.S.Seat.at c.end_trees.new.seat) (g.S.Seat.own c.args.seat.now) (g.S.Seat.own mid) (g.S.Seat.own c.end_trees.new.seat)
    c.args.played.now.items c.play_all.new.played.items c.end_trees.new.all.items refl c.in_ok-play_all.ensures.steals
    (goes-ended start trace (g.S.Seat.opening mid) (g.S.Seat.at mid) (g.S.Seat.at c.end_trees.new.seat) (g.S.Seat.own mid) (g.S.Seat.own c.end_trees.new.seat)
    c.play_all.new.played.items c.end_trees.new.all.items (ends_from 1 ended.0) c.in_ok-play_all.ensures.opening (ended.3 trace) ended.2 c.in_ok-end_trees.ensures.whose)
