use Rattle.tm_seat.proofs.Working.{if-ok-of-four, worker-done}
use Rattle.tm_seat.proofs.work.TreesWorkSeqTreeToPlayPlayedTree.work.Goals as goal

pub returns-clause-did : goal.returns-clause-did
returns-clause-did g c =
    if-ok-of-four _ _ _ _ _ c.play_trees.result c.play_trees.ensures.rows c.play_trees.ensures.own c.play_trees.ensures.makers c.play_trees.ensures.rises
    (λ rows each own makers rises floor low.
    worker-done (g.S.Seat.opening c.args.seat.now) c.args.supervised (g.S.Seat.at c.args.seat.now) (g.S.Seat.at c.play_trees.new.seat) (g.S.Seat.own c.args.seat.now) (g.S.Seat.own c.play_trees.new.seat) c.args.hand c.into_vec.result.items rows.items
    c.requires.stands c.into_vec.ensures c.requires.made each own makers rises floor low)
