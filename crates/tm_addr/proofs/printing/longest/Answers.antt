use Rattle.std.proofs.Common.{◌≡◌, ◌+◌, ◌≤◌, length, drop, sym, subst, ap, ◌∙◌, arith, length-drop}
use Rattle.std.proofs.lemmas.List.{take_rest}
use Rattle.tm_addr.specs.declared.printing.Run.{Run}
use Rattle.tm_addr.specs.Printing.{run, zeros, longer, longest}
use Rattle.tm_addr.proofs.Runs.{longest_past, longer_within}
use Rattle.tm_addr.proofs.printing.longest.Goals as goal

pub loop-place-preserved : goal.loop-place-preserved
loop-place-preserved c =
    let all = c.args.groups.now in
    let place = c.loop-place.place in
    let best = c.loop-place.best in
    let z : c.zeros.result ≡ zeros (drop place all) = c.zeros.ensures.value ∙ ap zeros (take_rest all place) in
    let is : c.longer-best.result ≡ longer best (run place c.zeros.result) = c.longer-best.ensures in
    let made : c.longer-best.result ≡ longer best (run place (zeros (drop place all))) = is ∙ ap (λ n. longer best (run place n)) z in
    let short : c.zeros.result ≤ length (drop place all) = subst (λ xs. c.zeros.result ≤ length xs) (take_rest all place) c.zeros.ensures.within in
    let here : place + c.zeros.result ≤ length all = omega (arith, short, length-drop place all) in (
      ap (λ (r : Run). longest r (place + 1) (drop (place + 1) all)) made ∙ sym (longest_past best all place c.loop-place-test.true) ∙ c.loop-place.invariant.0,
      subst (λ (r : Run). r.place + r.length ≤ length all) (sym is) (longer_within best (run place c.zeros.result) (length all) c.loop-place.invariant.1 here),
    )
