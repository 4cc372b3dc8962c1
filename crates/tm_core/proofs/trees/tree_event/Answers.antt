use Rattle.std.proofs.Common.{◌≡◌, ◌-◌, sym, ◌∙◌}
use Rattle.std.specs.Prelude.{Some}
use Rattle.tm_take.specs.Ways.{way_of}
use Rattle.tm_core.proofs.TreeLaws.{waiting-moves, put-back-event}
use Rattle.tm_core.proofs.trees.tree_event.Goals as goal

pub returns-then-is_waiting : goal.returns-then-is_waiting
returns-then-is_waiting g c = waiting-moves c.args.machine.now c.args.desk (c.args.number - 1) (way_of c.args.tree.now) (sym c.is_waiting.ensures ∙ c.if-is_waiting.true)

pub returns-in-Some : goal.returns-in-Some
returns-in-Some g c =
    let begun : (way_of c.args.tree.now).begun ≡ Some c.in-Some.attempt = sym c.take_begun.ensures.taken ∙ c.in-Some.is in
    put-back-event c.args.machine.now c.take_event.new.machine c.args.desk _ (way_of c.args.tree.now) (way_of c.take_begun.new.self) (way_of c.take_event.new.tree) c.in-Some.attempt c.take_event.result c.take_begun.ensures.left begun c.take_event.ensures
