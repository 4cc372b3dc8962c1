use Rattle.std.proofs.Common.{◌≡◌, ◌+◌, take, sym, subst, ◌++◌, ◌∙◌}
use Rattle.std.proofs.lemmas.List.{take_rest}
use Rattle.tm_word.specs.Prelude.{if_word, words_of}
use Rattle.tm_word.proofs.WordLaws.{piece_cut, piece_last}
use Rattle.tm_word.proofs.texts.cut_piece.Goals as goal

pub returns-in-Some-clause-words : goal.returns-in-Some-clause-words
returns-in-Some-clause-words c =
    let text = c.args.text.now in
    let place = c.in-Some.place in
    subst (λ rest. words_of text ≡ if_word (take place text) ++ words_of rest) (sym (take_rest text (place + 1))) (piece_cut text place (sym c.separator_place.ensures ∙ c.in-Some.is))

pub returns-in-None-clause-words : goal.returns-in-None-clause-words
returns-in-None-clause-words c = piece_last c.args.text.now (sym c.separator_place.ensures ∙ c.in-None.is)
