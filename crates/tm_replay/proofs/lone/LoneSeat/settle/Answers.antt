use Rattle.std.proofs.Common.{[], ◌∷◌}
use Rattle.tm_machine.proofs.Offices.{course-fits}
use Rattle.tm_replay.proofs.Courses.{course-fitted, course-noted, course-made}
use Rattle.tm_replay.proofs.lone.LoneSeat.settle.Goals as goal

pub settle-requires : goal.settle-requires
settle-requires g c =
    record { fits = course-fits c.args.self.now.machine c.args.made c.versions.ensures.after c.requires.fits }

pub returns-clause-fitted : goal.returns-clause-fitted
returns-clause-fitted g c =
    course-fitted c.settle.new.self c.versions-2.ensures.replies

pub returns-clause-settled : goal.returns-clause-settled
returns-clause-settled g c =
    course-made c.args.self.now.machine c.settle.new.self c.args.made c.in_ok-reply.reply c.versions.ensures.after c.in_ok-reply.ensures.done c.in_ok-reply.ensures.made

pub returns-clause-grows : goal.returns-clause-grows
returns-clause-grows g c =
    (c.args.made ∷ [], course-noted c.args.self.now.machine c.settle.new.self c.args.made c.in_ok-reply.reply c.in_ok-reply.ensures.made)
