use Rattle.std.proofs.Common.{◌≡◌, length, sym, ◌∙◌, arith}
use Rattle.tm_word.proofs.WordLaws.{no_words}
use Rattle.tm_word.proofs.texts.cut_word.Goals as goal

pub returns : goal.returns
returns c =
    let over : length c.loop-rest.rest.now ≡ 0 = grind arith in
    sym c.loop-rest.invariant ∙ no_words c.loop-rest.rest.now over
