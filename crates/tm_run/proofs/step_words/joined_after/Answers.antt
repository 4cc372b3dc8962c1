use Rattle.std.proofs.Common.{rules, ◌≡◌, ◌∙◌, sym, ap, [], ◌++◌}
use Rattle.std.proofs.lemmas.List.{append-nil}
use Rattle.tm_word.specs.Prelude.{words_of}
use Rattle.tm_line.specs.Lines.{spaced}
use Rattle.tm_line.proofs.JoinLaws.{joined_is}
use Rattle.tm_run.proofs.step_words.joined_after.Goals as goal

pub returns : goal.returns
returns c =
    let none_left : words_of c.loop-word.rest.now ≡ [] = search rules in
    let line = c.loop-word.line.items in
    c.from_vec.ensures ∙ sym (append-nil line) ∙ ap (λ words. line ++ spaced words) (sym none_left) ∙ c.loop-word.invariant ∙ sym (joined_is c.args.first.now (words_of c.args.text.now))
