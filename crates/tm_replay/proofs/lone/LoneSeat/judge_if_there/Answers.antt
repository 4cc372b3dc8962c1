use Rattle.std.proofs.Common.{refl, sym, ◌∙◌}
use Rattle.std.proofs.lemmas.List.{length-map}
use Rattle.tm_rules.specs.Types.{Made, Reply}
use Rattle.tm_machine.specs.Office.{list_of}
use Rattle.tm_replay.proofs.Courses.{course-fitted}
use Rattle.tm_replay.proofs.Passes.{shows-ok}
use Rattle.tm_replay.proofs.lone.LoneSeat.judge_if_there.Goals as goal

pub returns-in-Ok-clause-fitted : goal.returns-in-Ok-clause-fitted
returns-in-Ok-clause-fitted g c =
    course-fitted c.args.self.now.machine c.versions.ensures.replies

pub returns-in-Ok-clause-shows : goal.returns-in-Ok-clause-shows
returns-in-Ok-clause-shows g c =
    let course = c.args.self.now.machine in
    shows-ok course.start course.start (list_of course) c.args.domain c.args.process.now c.args.request.now c.in-Ok.found c.version.result c.shown_if_there.result
    refl c.in-Ok.ensures (c.version.ensures ∙ sym (length-map course.made (λ (pair : Made × Reply). pair.0))) c.shown_if_there.ensures.shown c.shown_if_there.ensures.version
