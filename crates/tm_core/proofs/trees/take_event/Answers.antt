use Rattle.tm_take.specs.Ways.{way_of}
use Rattle.tm_core.proofs.TreeLaws.{own-event, hear-event, again-there, again-event, end-moves}
use Rattle.tm_core.proofs.trees.take_event.Goals as goal

pub returns-in-OwnStep : goal.returns-in-OwnStep
returns-in-OwnStep g c = own-event c.args.machine.now c.own_step.new.machine (way_of c.args.tree.now) (way_of c.own_step.new.tree) c.args.attempt c.own_step.result c.own_step.ensures.moved c.own_step.ensures.makes

pub returns-in-Answer : goal.returns-in-Answer
returns-in-Answer g c = hear-event c.args.machine.now (way_of c.args.tree.now) (way_of c.hear.new.tree) c.args.attempt c.in-Answer.serial c.hear.result c.in-Answer.ensures c.hear.ensures

pub look_again-requires-clause-there : goal.look_again-requires-clause-there
look_again-requires-clause-there g c = again-there c.args.machine.now c.args.attempt c.in-Look.ensures c.requires.fits

pub returns-in_ok-look_again-in-Look : goal.returns-in_ok-look_again-in-Look
returns-in_ok-look_again-in-Look g c =
    λ desk t. again-event c.args.machine.now desk t (way_of c.args.tree.now) (way_of c.look_again.new.tree) c.args.attempt c.in-Look.ensures c.requires.fits (c.in_ok-look_again-in-Look.ensures)

pub returns-in-End : goal.returns-in-End
returns-in-End g c = λ desk t. end-moves c.args.machine.now desk t (way_of c.args.tree.now) (way_of c.put_back.new.self) c.args.attempt c.in-End.ensures c.put_back.ensures
