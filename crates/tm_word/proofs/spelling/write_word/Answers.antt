use Rattle.std.proofs.Common.{◌≡◌, ◌+◌, ◌-◌, ◌≤◌, ◌++◌, List, ℕ, length, take, drop, ap, subst, ◌∙◌, arith}
use Rattle.std.proofs.lemmas.Grind.{common_steps}
use Rattle.tm_word.specs.Prelude.{spell}
use Rattle.tm_word.proofs.Own.{pieces_pushed}
use Rattle.tm_word.proofs.spelling.write_word.Goals as goal

pub loop-place-preserved : goal.loop-place-preserved
loop-place-preserved c =
    let bytes = c.as_slice-bytes.result.now in
    let place = c.loop-place.place in
    let count = c.in-Ok.count in
    let more = c.in-Ok.ensures in
    let rest : take (length bytes - place) (drop place bytes) ≡ drop place bytes = grind (arith, common_steps) in
    let inside : count ≤ length (drop place bytes) = subst (λ (t : List ℕ). count ≤ length t) rest more.within.1 in
    let within : place + count ≤ length bytes = grind (arith, common_steps) in
    let pushed = more.ok ∙ ap (λ (t : List ℕ). c.loop-place.out.items ++ spell (take count t)) rest in
    (within, pushed ∙ ap (λ (t : List ℕ). t ++ spell (take count (drop place bytes))) c.loop-place.invariant.1 ∙ pieces_pushed c.args.out.now.items bytes place count)
