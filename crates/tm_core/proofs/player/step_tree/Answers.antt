use Rattle.std.proofs.Common.{◌≡◌, ◌≤◌, ◌<◌, ◌-◌, length, Bool, refl, ap, subst, arith}
use Rattle.std.specs.Prelude.{Some, IfOk, slice_get}
use Rattle.tm_take.specs.Ways.{way_of}
use Rattle.tm_core.specs.Moves.{TreeMoves}
use Rattle.tm_core.specs.Players.{course_of, player_of}
use Rattle.tm_core.proofs.PlayerLaws.{get-index, no-tree, past-trees, tree-within, tree-needs, tree-answers, tree-start, tree-makers}
use Rattle.tm_core.proofs.player.step_tree.Goals as goal

pub returns-then-number-eq0-clause-event : goal.returns-then-number-eq0-clause-event
returns-then-number-eq0-clause-event g c = (no-tree (player_of c.args.player.now) (course_of c.args.player.now).start.desk c.args.number c.if-number-eq0.true, refl)

pub returns-then-place-len-clause-event : goal.returns-then-place-len-clause-event
unfolding course_of player_of
returns-then-place-len-clause-event g c =
    let past : length c.args.player.now.trees.items ≤ c.args.number - 1 = omega (arith, c.if-place-len.true, c.len.ensures) in
    (past-trees way_of c.args.player.now.machine c.args.player.now.trees.items c.args.player.now.scripts.items c.args.player.now.machine.start.desk c.args.number c.if-number-eq0.false past, refl)

pub tree_event-requires-clause-there : goal.tree_event-requires-clause-there
unfolding player_of
tree_event-requires-clause-there g c =
    let lt : c.args.number - 1 < length c.args.player.now.trees.items = omega (arith, c.if-place-len.false, c.len.ensures) in
    tree-within way_of c.args.player.now.machine c.args.player.now.trees.items c.args.player.now.scripts.items c.args.number c.requires lt

pub tree_event-requires-clause-needs : goal.tree_event-requires-clause-needs
unfolding player_of
tree_event-requires-clause-needs g c =
    let lt : c.args.number - 1 < length c.args.player.now.trees.items = omega (arith, c.if-place-len.false, c.len.ensures) in
    let at : slice_get c.args.player.now.trees.items (c.args.number - 1) ≡ Some c.index_mut-tree.result.now = get-index c.args.player.now.trees.items (c.args.number - 1) c.index_mut-tree.result.now lt c.index_mut-tree.ensures.value in
    tree-needs way_of c.args.player.now.machine c.args.player.now.trees.items c.args.player.now.scripts.items (c.args.number - 1) c.index_mut-tree.result.now c.requires at

pub returns-clause-event : goal.returns-clause-event
unfolding course_of player_of
returns-clause-event g c =
    let lt : c.args.number - 1 < length c.args.player.now.trees.items = omega (arith, c.if-place-len.false, c.len.ensures) in
    let at : slice_get c.args.player.now.trees.items (c.args.number - 1) ≡ Some c.index_mut-tree.result.now = get-index c.args.player.now.trees.items (c.args.number - 1) c.index_mut-tree.result.now lt c.index_mut-tree.ensures.value in
    let desk : c.opening.result.now.desk ≡ c.args.player.now.machine.start.desk = ap (λ s. s.desk) c.opening.ensures in
    tree-answers way_of c.args.player.now.machine c.tree_event.new.machine c.args.player.now.trees.items c.args.player.now.scripts.items c.args.player.now.machine.start.desk c.args.number c.index_mut-tree.result.now c.tree_event.new.tree c.tree_event.result c.if-number-eq0.false at
    (subst (λ (d : Bool). IfOk c.tree_event.result (λ moved. TreeMoves d (c.args.number - 1) moved c.args.player.now.machine (way_of c.index_mut-tree.result.now) c.tree_event.new.machine (way_of c.tree_event.new.tree))) desk c.tree_event.ensures)

pub returns-clause-start : goal.returns-clause-start
unfolding course_of
returns-clause-start g c =
    tree-start c.args.player.now.machine c.tree_event.new.machine c.opening.result.now.desk (c.args.number - 1) (way_of c.index_mut-tree.result.now) (way_of c.tree_event.new.tree) c.tree_event.result c.tree_event.ensures

pub returns-clause-makers : goal.returns-clause-makers
unfolding course_of player_of
returns-clause-makers g c =
    let lt : c.args.number - 1 < length c.args.player.now.trees.items = omega (arith, c.if-place-len.false, c.len.ensures) in
    let at : slice_get c.args.player.now.trees.items (c.args.number - 1) ≡ Some c.index_mut-tree.result.now = get-index c.args.player.now.trees.items (c.args.number - 1) c.index_mut-tree.result.now lt c.index_mut-tree.ensures.value in
    tree-makers way_of c.args.player.now.machine c.tree_event.new.machine c.args.player.now.trees.items c.args.player.now.scripts.items c.opening.result.now.desk c.args.number c.index_mut-tree.result.now c.tree_event.new.tree c.tree_event.result c.if-number-eq0.false at c.tree_event.ensures
