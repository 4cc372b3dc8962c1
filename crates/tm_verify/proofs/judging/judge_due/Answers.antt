use Rattle.std.proofs.Common.{rules, ◌≡◌, Some, subst}
use Rattle.std.specs.Prelude.{slice_get}
use Rattle.tm_verify_notes.specs.Given.{scene_of, history_of}
use Rattle.tm_verify_notes.specs.Noting.{IsPartNote}
use Rattle.tm_verify_notes.proofs.EachLaws.{each_at, each_set}
use Rattle.tm_verify_steps.proofs.PlaceLaws.{here_at}
use Rattle.tm_verify.proofs.judging.judge_due.Goals as goal

pub judge_part-requires-clause-noted : goal.judge_part-requires-clause-noted
judge_part-requires-clause-noted g c =
    let P = IsPartNote (scene_of c.args.given.now) (history_of c.args.given.now) in
    let k = c.args.due.place in
    let on = here_at c.args.looks.now k c.in-Some.on.now c.in-Some.ensures.lookup.3.0 c.in-Some.ensures.lookup.1 in
    let value : c.deref.result.now ≡ c.args.parts.now.items = search rules in
    let part : slice_get c.args.parts.now.items k ≡ Some c.in-Some-get.part.now =
    subst (λ xs. slice_get xs k ≡ Some c.in-Some-get.part.now) value (here_at c.deref.result.now k c.in-Some-get.part.now c.in-Some-get.ensures.lookup.3.0 c.in-Some-get.ensures.lookup.1) in
    each_at P c.args.looks.now c.args.parts.now.items k c.in-Some.on.now c.in-Some-get.part.now c.requires.noted on part

pub returns : goal.returns
returns g c =
    let P = IsPartNote (scene_of c.args.given.now) (history_of c.args.given.now) in
    let k = c.args.due.place in
    let on = here_at c.args.looks.now k c.in-Some.on.now c.in-Some.ensures.lookup.3.0 c.in-Some.ensures.lookup.1 in
    each_set P c.args.looks.now c.args.parts.now.items k c.in-Some.on.now c.in_ok-part.part c.requires.noted on c.in_ok-part.ensures
