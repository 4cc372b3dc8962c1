use Rattle.std.proofs.Common.{◌+◌, ◌<◌, ◌==◌, length, take, drop, sym, subst, ◌∙◌, arith, length-drop}
use Rattle.std.proofs.lemmas.List.{take_rest}
use Rattle.tm_word.specs.Prelude.{IsCut, Text}
use Rattle.tm_word.proofs.Cuts.{cut_some, cut_none}
use Rattle.tm_word.proofs.texts.cut_at.Goals as goal

pub returns-in-Some : goal.returns-in-Some
returns-in-Some c =
    let byte = c.args.byte in
    let text = c.args.text.now in
    let place = c.in-Some.place in
    let cut = cut_some (λ b. b == byte) text place (sym c.place_of.ensures ∙ c.in-Some.is) in
    let shorter : length (drop (place + 1) text) < length text = simp length-drop (omega (arith, cut.1)) in
    subst (λ (rest : Text). IsCut byte text (take place text) rest) (sym (take_rest text (place + 1))) (record { pieces_are = cut.0; shorter = shorter })

pub returns-in-None : goal.returns-in-None
returns-in-None c = cut_none (λ b. b == c.args.byte) c.args.text.now (sym c.place_of.ensures ∙ c.in-None.is)
