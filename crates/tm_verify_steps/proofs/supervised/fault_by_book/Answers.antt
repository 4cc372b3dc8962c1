use Rattle.std.proofs.Common.{rules, ◌≡◌, ◌<◌, ◌≤◌, ◌+◌, ◌-◌, length, Some, true, false, refl, sym, ap, ◌∙◌, subst, arith}
use Rattle.std.specs.Prelude.{slice_get}
use Rattle.tm_verify_notes.specs.Given.{scene_of, history_of, run_of}
use Rattle.tm_verify_steps.specs.Heights.{height}
use Rattle.tm_verify_steps.specs.Acting.{may_make}
use Rattle.tm_verify_steps.proofs.PlaceLaws.{here_at}
use Rattle.tm_verify_steps.proofs.ActLaws.{step_at_fault, step_acted, no_step_at_fault}
use Rattle.tm_verify_steps.proofs.supervised.fault_by_book.Goals as goal

pub returns-then-not-may_make : goal.returns-then-not-may_make
returns-then-not-may_make c =
    let number = c.loop-pair.invariant.1 in
    let within : c.loop-pair.pair-index < length (history_of c.args.given.now) = search rules in
    let at : slice_get (history_of c.args.given.now) c.loop-pair.pair-index ≡ Some c.pair-item.result = here_at (history_of c.args.given.now) c.loop-pair.pair-index c.pair-item.result within c.pair-item.is in
    let place : c.loop-pair.number - 1 ≡ c.loop-pair.pair-index = omega (arith, number) in
    let noted : slice_get c.args.notes.now (c.loop-pair.number - 1) ≡ Some c.in-Some.note.now = search rules in
    let note : slice_get c.args.notes.now c.loop-pair.pair-index ≡ Some c.in-Some.note.now = subst (λ k. slice_get c.args.notes.now k ≡ Some c.in-Some.note.now) place noted in
    let may : c.may_make.result ≡ may_make c.loop-pair.acts (height c.args.heights.now) c.args.given.now.trace.now c.args.book.now c.loop-pair.number c.in-Some.note.now.suits c.pair-item.result.0 = search rules in
    step_at_fault (scene_of c.args.given.now) (run_of c.args.given.now) c.args.book.now c.loop-pair.pair-index c.loop-pair.number c.pair-item.result c.in-Some.note.now c.args.notes.now c.loop-pair.acts (height c.args.heights.now) c.may_make.result
    c.loop-pair.invariant.0 c.requires.book c.requires.heights c.requires.noted at note may number (search rules)

pub loop-pair-preserved : goal.loop-pair-preserved
loop-pair-preserved c =
    let number = c.loop-pair.invariant.1 in
    let within : c.loop-pair.pair-index < length (history_of c.args.given.now) = search rules in
    let at : slice_get (history_of c.args.given.now) c.loop-pair.pair-index ≡ Some c.pair-item.result = here_at (history_of c.args.given.now) c.loop-pair.pair-index c.pair-item.result within c.pair-item.is in
    let place : c.loop-pair.number - 1 ≡ c.loop-pair.pair-index = omega (arith, number) in
    let noted : slice_get c.args.notes.now (c.loop-pair.number - 1) ≡ Some c.in-Some.note.now = search rules in
    let note : slice_get c.args.notes.now c.loop-pair.pair-index ≡ Some c.in-Some.note.now = subst (λ k. slice_get c.args.notes.now k ≡ Some c.in-Some.note.now) place noted in
    let may : c.may_make.result ≡ may_make c.loop-pair.acts (height c.args.heights.now) c.args.given.now.trace.now c.args.book.now c.loop-pair.number c.in-Some.note.now.suits c.pair-item.result.0 = search rules in (
      step_acted (scene_of c.args.given.now) (run_of c.args.given.now) c.args.book.now c.loop-pair.pair-index (c.loop-pair.pair-index + 1) c.loop-pair.number c.pair-item.result c.in-Some.note.now c.args.notes.now c.loop-pair.acts c.note.new.self (height c.args.heights.now) c.may_make.result
          c.loop-pair.invariant.0 c.requires.book c.requires.heights c.requires.noted at note may number refl (search rules) c.in_ok-note.ensures,
      ap (λ k. k + 1) number,
    )

pub returns-then-is_complete : goal.returns-then-is_complete
returns-then-is_complete c =
    let long : length (history_of c.args.given.now) ≤ c.loop-pair.pair-index = search rules in
    no_step_at_fault (scene_of c.args.given.now) (run_of c.args.given.now) c.args.book.now c.loop-pair.pair-index c.loop-pair.acts true c.loop-pair.invariant.0 c.requires.book long (sym c.if-is_complete.true ∙ c.is_complete.ensures)

pub returns : goal.returns
returns c =
    let long : length (history_of c.args.given.now) ≤ c.loop-pair.pair-index = search rules in
    no_step_at_fault (scene_of c.args.given.now) (run_of c.args.given.now) c.args.book.now c.loop-pair.pair-index c.loop-pair.acts false c.loop-pair.invariant.0 c.requires.book long (sym c.if-is_complete.false ∙ c.is_complete.ensures)
