use Rattle.std.proofs.Common.{rules, ◌≡◌, ◌∙◌, sym, ap, take, ◌++◌, length, ◌≤◌}
use Rattle.std.proofs.lemmas.List.{take_all}
use Rattle.tm_line.specs.Lines.{spaced}
use Rattle.tm_line.proofs.JoinLaws.{joined_is}
use Rattle.tm_line.proofs.words.joined_after.Goals as goal

pub returns : goal.returns
returns c =
    let past : length c.args.rest.now ≤ c.loop-word.word-index = search rules in
    let whole : take c.loop-word.word-index c.args.rest.now ≡ c.args.rest.now = take_all c.loop-word.word-index c.args.rest.now past in
    c.loop-word.invariant ∙ ap (λ words. c.args.first.now ++ spaced words) whole ∙ sym (joined_is c.args.first.now c.args.rest.now)
