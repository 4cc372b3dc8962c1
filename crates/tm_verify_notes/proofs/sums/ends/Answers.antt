use Rattle.std.proofs.Common.{rules, ◌≡◌, ◌-◌, ◌<◌, suc, length, sym, ap, ◌∙◌, arith}
use Rattle.std.specs.Prelude.{Some, slice_get}
use Rattle.std.proofs.lemmas.Bool.{ltb-true}
use Rattle.tm_verify_notes.specs.Given.{scene_of, history_of}
use Rattle.tm_verify_notes.proofs.EachLaws.{index_at}
use Rattle.tm_verify_notes.proofs.SumLaws.{ends_at, ends_last}
use Rattle.tm_verify_notes.proofs.sums.ends.Goals as goal

pub ends_with-requires : goal.ends_with-requires
ends_with-requires c =
    let same : c.as_slice-looks.result.now ≡ c.args.case.now.taken.looks = search rules in
    let some = c.if-count-eq0.false in
    let within : length c.as_slice-looks.result.now - 1 < length c.as_slice-looks.result.now = search rules in
    let look : slice_get c.args.case.now.taken.looks (length c.as_slice-looks.result.now - 1) ≡ Some c.index-looks-count.result =
    ap (λ ls. slice_get ls (length c.as_slice-looks.result.now - 1)) (sym same) ∙ index_at c.as_slice-looks.result.now (length c.as_slice-looks.result.now - 1) c.index-looks-count.result within c.index-looks-count.is in
    let found = c.in-Some.ensures.lookup in
    let note : slice_get c.args.notes.now (length c.as_slice-looks.result.now - 1) ≡ Some c.in-Some.note.now =
    index_at c.args.notes.now (length c.as_slice-looks.result.now - 1) c.in-Some.note.now (ltb-true (length c.as_slice-looks.result.now - 1) (length c.args.notes.now) (sym found.0)) found.1 in
    ends_at (scene_of c.args.given.now) (history_of c.args.given.now) c.args.case.now c.args.notes.now (length c.as_slice-looks.result.now - 1) c.index-looks-count.result c.in-Some.note.now c.requires look note

pub returns-in-Some : goal.returns-in-Some
returns-in-Some c =
    let same : c.as_slice-looks.result.now ≡ c.args.case.now.taken.looks = search rules in
    let within : length c.as_slice-looks.result.now - 1 < length c.as_slice-looks.result.now = search rules in
    let long : length c.as_slice-looks.result.now ≡ suc (length c.as_slice-looks.result.now - 1) = omega (arith, within) in
    let look : slice_get c.args.case.now.taken.looks (length c.as_slice-looks.result.now - 1) ≡ Some c.index-looks-count.result =
    ap (λ ls. slice_get ls (length c.as_slice-looks.result.now - 1)) (sym same) ∙ index_at c.as_slice-looks.result.now (length c.as_slice-looks.result.now - 1) c.index-looks-count.result within c.index-looks-count.is in
    ends_last (scene_of c.args.given.now) (history_of c.args.given.now) c.args.case.now (length c.as_slice-looks.result.now - 1) c.index-looks-count.result c.ends_with.result (ap length (sym same) ∙ long) look c.ends_with.ensures
