use Rattle.tm_take.specs.Ways.{way_of, PassesTo, IsPassed}
use Rattle.tm_core.proofs.TreeLaws.{next-judged, first-there, first-event, ends-event}
use Rattle.tm_core.proofs.trees.next_request.Goals as goal

pub first_look-requires-clause-asked : goal.first_look-requires-clause-asked
first_look-requires-clause-asked g c =
    let passes : PassesTo c.in-Some.pid c.in-Some.request (way_of c.args.tree.now) (way_of c.pass.new.self) = rw c.in-Some.is at c.in_ok-pid.ensures in
    (next-judged c.args.machine.now.state (way_of c.args.tree.now) (way_of c.pass.new.self) c.in-Some.pid c.in-Some.request c.requires.needs c.requires.idle passes).0

pub first_look-requires-clause-there : goal.first_look-requires-clause-there
first_look-requires-clause-there g c =
    let passes : PassesTo c.in-Some.pid c.in-Some.request (way_of c.args.tree.now) (way_of c.pass.new.self) = rw c.in-Some.is at c.in_ok-pid.ensures in
    first-there c.args.machine.now (way_of c.args.tree.now) (way_of c.pass.new.self) c.in-Some.pid c.in-Some.request c.requires.needs c.requires.idle passes

pub returns-in_ok-first_look-in-Some : goal.returns-in_ok-first_look-in-Some
returns-in_ok-first_look-in-Some g c =
    let passes : PassesTo c.in-Some.pid c.in-Some.request (way_of c.args.tree.now) (way_of c.pass.new.self) = rw c.in-Some.is at c.in_ok-pid.ensures in
    first-event c.args.machine.now c.args.desk _ (way_of c.args.tree.now) (way_of c.pass.new.self) (way_of c.first_look.new.tree) c.in-Some.pid c.in-Some.request c.requires.needs c.requires.idle passes (c.in_ok-first_look-in-Some.ensures)

pub returns-in-None : goal.returns-in-None
returns-in-None g c =
    let past : IsPassed (way_of c.args.tree.now) (way_of c.pass.new.self) = rw c.in-None.is at c.in_ok-pid.ensures in
    ends-event c.args.machine.now c.end_tree.new.machine c.args.desk c.args.number (way_of c.args.tree.now) (way_of c.pass.new.self) c.end_tree.result c.requires.some c.requires.idle past c.end_tree.ensures
