use Rattle.std.proofs.Common.{sym, ap, ◌∙◌}
use Rattle.tm_rules.specs.Prelude.{answer_of}
use Rattle.tm_legal.specs.Prelude.{State}
use Rattle.tm_machine.proofs.Offices.{course-state}
use Rattle.tm_replay.proofs.Courses.{course-fitted}
use Rattle.tm_replay.proofs.lone.LoneSeat.hear.Goals as goal

pub returns-in-Some-clause-fitted : goal.returns-in-Some-clause-fitted
returns-in-Some-clause-fitted g c =
    course-fitted c.args.self.now.machine c.versions.ensures.replies

pub returns-in-Some-clause-answer : goal.returns-in-Some-clause-answer
returns-in-Some-clause-answer g c =
    ap (λ (s : State). answer_of s.queries c.args.serial) (course-state c.args.self.now.machine c.versions.ensures.after)
    ∙ sym c.in-Some.ensures
