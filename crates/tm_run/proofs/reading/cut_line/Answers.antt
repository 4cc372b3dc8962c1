use Rattle.std.proofs.Common.{◌≡◌, ◌+◌, ◌<◌, ◌∷◌, length, take, drop, sym, subst, ◌∙◌, arith, length-drop}
use Rattle.std.proofs.lemmas.List.{take_rest}
use Rattle.tm_run.specs.Reading.{lines_of}
use Rattle.tm_run.proofs.TextLaws.{line_found, line_empty, line_last}
use Rattle.tm_run.proofs.reading.cut_line.Goals as goal

pub returns-in-Some : goal.returns-in-Some
returns-in-Some c =
    let text = c.args.text.now in
    let place = c.in-Some.place in
    let cut = line_found text place (sym c.place_of.ensures ∙ c.in-Some.is) in
    let shorter : length (drop (place + 1) text) < length text = simp length-drop (omega (arith, cut.1)) in
    subst (λ rest. (lines_of text ≡ take (place + 1) text ∷ lines_of rest) × (length rest < length text)) (sym (take_rest text (place + 1))) (cut.0, shorter)

pub returns-in-empty : goal.returns-in-empty
returns-in-empty c = line_empty c.args.text.now c.in-empty.len_below

pub returns-in-len1-up : goal.returns-in-len1-up
returns-in-len1-up c = (line_last c.args.text.now (sym c.place_of.ensures ∙ c.in-None.is) c.in-len1-up.len_at_least, omega arith)
