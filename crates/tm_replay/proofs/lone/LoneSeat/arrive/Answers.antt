use Rattle.tm_replay.proofs.Courses.{course-fitted}
use Rattle.tm_replay.proofs.lone.LoneSeat.arrive.Goals as goal

pub returns-clause-fitted : goal.returns-clause-fitted
returns-clause-fitted g c =
    course-fitted c.args.self.now.machine c.versions.ensures.replies
