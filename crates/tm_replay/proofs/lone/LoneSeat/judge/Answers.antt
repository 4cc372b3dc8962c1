use Rattle.std.proofs.Common.{[], sym, append-nil}
use Rattle.tm_machine.specs.Office.{list_of}
use Rattle.tm_replay.proofs.Courses.{course-fitted}
use Rattle.tm_replay.proofs.Passes.{looks-there}
use Rattle.tm_replay.proofs.lone.LoneSeat.judge.Goals as goal

pub shown-requires : goal.shown-requires
shown-requires g c =
    let course = c.args.self.now.machine in
    rw c.in-Ok.ensures
    (looks-there course.start (list_of course) (list_of course) c.args.domain c.args.process.now c.args.request.now c.requires.opened ([], sym (append-nil (list_of course))) (course-fitted course c.versions.ensures.replies) c.requires.there c.requires.asked)

pub returns-in-Ok-clause-fitted : goal.returns-in-Ok-clause-fitted
returns-in-Ok-clause-fitted g c =
    course-fitted c.args.self.now.machine c.versions.ensures.replies
