use Rattle.std.proofs.Common.{rules, ◌≡◌, ◌<◌, ◌+◌, ◌∷◌, ◌∙◌, length, take, drop, sym, ap, subst}
use Rattle.std.proofs.lemmas.List.{at_drop_more}
use Rattle.tm_verify_notes.specs.Given.{scene_of, history_of}
use Rattle.tm_take.specs.Each.{EachWith}
use Rattle.tm_verify_notes.specs.Noting.{looks_on, all_looks, IsLookNote, IsTakeNote}
use Rattle.tm_verify_notes.proofs.EachLaws.{each_next}
use Rattle.tm_verify_notes.proofs.SumLaws.{first_notes}
use Rattle.tm_verify_notes.proofs.sums.all_takes.Goals as goal

pub take_note-requires : goal.take_note-requires
take_note-requires c =
    let scene = scene_of c.args.given.now in
    let history = history_of c.args.given.now in
    let cases = drop (c.loop-case.case-index + 1) c.args.cases.now in
    let within : c.loop-case.case-index < length c.args.cases.now = search rules in
    let at : drop c.loop-case.case-index c.args.cases.now ≡ c.case-item.result ∷ drop (c.loop-case.case-index + 1) c.args.cases.now =
    at_drop_more (λ cs. cs) c.args.cases.now c.loop-case.case-index c.case-item.result within ∙ ap (λ k. k ∷ drop (c.loop-case.case-index + 1) c.args.cases.now) (sym c.case-item.is) in
    let before = subst (λ cs. EachWith (IsLookNote scene history) (all_looks cs) c.loop-case.rest.now) at c.loop-case.invariant.0 in
    let own : c.in_ok-own.own.now ≡ take (length c.case-item.result.taken.looks) c.loop-case.rest.now = search rules in
    subst (λ ns. EachWith (IsLookNote scene history) (looks_on c.case-item.result) ns) (sym own) (first_notes scene history c.case-item.result cases c.loop-case.rest.now before).0

pub loop-case-preserved : goal.loop-case-preserved
loop-case-preserved c =
    let scene = scene_of c.args.given.now in
    let history = history_of c.args.given.now in
    let cases = drop (c.loop-case.case-index + 1) c.args.cases.now in
    let within : c.loop-case.case-index < length c.args.cases.now = search rules in
    let at : drop c.loop-case.case-index c.args.cases.now ≡ c.case-item.result ∷ drop (c.loop-case.case-index + 1) c.args.cases.now =
    at_drop_more (λ cs. cs) c.args.cases.now c.loop-case.case-index c.case-item.result within ∙ ap (λ k. k ∷ drop (c.loop-case.case-index + 1) c.args.cases.now) (sym c.case-item.is) in
    let before = subst (λ cs. EachWith (IsLookNote scene history) (all_looks cs) c.loop-case.rest.now) at c.loop-case.invariant.0 in
    let others : c.in_ok-own.others.now ≡ drop (length c.case-item.result.taken.looks) c.loop-case.rest.now = search rules in (
      subst (λ ns. EachWith (IsLookNote scene history) (all_looks cases) ns) (sym others) (first_notes scene history c.case-item.result cases c.loop-case.rest.now before).1,
      each_next (IsTakeNote scene history) c.args.cases.now c.loop-case.takes.items c.push.new.self.items c.loop-case.case-index c.case-item.result c.in_ok-take_note.field-0 c.loop-case.invariant.1 within c.case-item.is c.in_ok-take_note.ensures c.in_ok-push.ensures.items,
    )
