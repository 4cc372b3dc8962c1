use Rattle.std.proofs.Common.{rules, ◌≡◌, ◌<◌, ◌+◌, length, Some, refl, ap, subst, arith}
use Rattle.std.specs.Prelude.{slice_get}
use Rattle.tm_verify_notes.specs.Given.{scene_of, history_of, run_of}
use Rattle.tm_verify_steps.proofs.PlaceLaws.{here_at, step_placed, step_misplaced}
use Rattle.tm_verify_steps.proofs.places.first_misplaced.Goals as goal

pub returns-then-not-is_in_place-clause-fault : goal.returns-then-not-is_in_place-clause-fault
returns-then-not-is_in_place-clause-fault c =
    let place : c.loop-pair.place ≡ c.loop-pair.pair-index = c.loop-pair.invariant.1 in
    let within : c.loop-pair.pair-index < length (history_of c.args.given.now) = search rules in
    let at : slice_get (history_of c.args.given.now) c.loop-pair.pair-index ≡ Some c.pair-item.result = here_at (history_of c.args.given.now) c.loop-pair.pair-index c.pair-item.result within c.pair-item.is in
    let noted : slice_get c.args.notes.now c.loop-pair.place ≡ Some c.in-Some.note.now = search rules in
    let note : slice_get c.args.notes.now c.loop-pair.pair-index ≡ Some c.in-Some.note.now = subst (λ k. slice_get c.args.notes.now k ≡ Some c.in-Some.note.now) place noted in
    let counted : slice_get c.args.counts.now c.loop-pair.place ≡ Some c.in-Some-count_at.count.now = search rules in
    let count : slice_get c.args.counts.now c.loop-pair.pair-index ≡ Some c.in-Some-count_at.count.now = subst (λ k. slice_get c.args.counts.now k ≡ Some c.in-Some-count_at.count.now) place counted in
    step_misplaced c.args.given.now c.loop-pair.pair-index (c.loop-pair.place + 1) c.pair-item.result c.in-Some-count_at.count.now c.in-Some.note.now c.args.counts.now c.loop-pair.had.items c.args.notes.now c.is_in_place.result
    c.loop-pair.invariant.0 c.requires.noted c.requires.counted at note count c.is_in_place.ensures.right (search rules) (ap (λ k. k + 1) place)

pub loop-pair-preserved : goal.loop-pair-preserved
loop-pair-preserved c =
    let place : c.loop-pair.place ≡ c.loop-pair.pair-index = c.loop-pair.invariant.1 in
    let within : c.loop-pair.pair-index < length (history_of c.args.given.now) = search rules in
    let at : slice_get (history_of c.args.given.now) c.loop-pair.pair-index ≡ Some c.pair-item.result = here_at (history_of c.args.given.now) c.loop-pair.pair-index c.pair-item.result within c.pair-item.is in
    let noted : slice_get c.args.notes.now c.loop-pair.place ≡ Some c.in-Some.note.now = search rules in
    let note : slice_get c.args.notes.now c.loop-pair.pair-index ≡ Some c.in-Some.note.now = subst (λ k. slice_get c.args.notes.now k ≡ Some c.in-Some.note.now) place noted in
    let counted : slice_get c.args.counts.now c.loop-pair.place ≡ Some c.in-Some-count_at.count.now = search rules in
    let count : slice_get c.args.counts.now c.loop-pair.pair-index ≡ Some c.in-Some-count_at.count.now = subst (λ k. slice_get c.args.counts.now k ≡ Some c.in-Some-count_at.count.now) place counted in (
      step_placed c.args.given.now c.loop-pair.pair-index (c.loop-pair.pair-index + 1) c.pair-item.result c.in-Some-count_at.count.now c.in-Some.note.now c.args.counts.now c.loop-pair.had.items c.is_in_place.new.had.items c.args.notes.now c.is_in_place.result
          c.loop-pair.invariant.0 c.requires.noted c.requires.counted at note count c.is_in_place.ensures.right c.is_in_place.ensures.had (search rules) refl,
      ap (λ k. k + 1) place,
    )
