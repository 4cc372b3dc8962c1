use Rattle.std.proofs.Common.{◌≡◌, ◌-◌, Some, length, take, drop, sym, ap, ◌∙◌, arith}
use Rattle.std.proofs.lemmas.Grind.{common_steps}
use Rattle.tm_word.proofs.TextLaws.{after_some, after_none}
use Rattle.tm_word.proofs.texts.after.Goals as goal

pub returns-then-begins : goal.returns-then-begins
returns-then-begins c =
    let front = c.args.front.now in
    let text = c.args.text.now in
    let whole : take (length text - length front) (drop (length front) text) ≡ drop (length front) text = grind (arith, common_steps) in
    after_some front text (sym c.if-begins.ensures.exact) ∙ ap Some (sym whole)

pub returns-else-begins : goal.returns-else-begins
returns-else-begins c = after_none c.args.front.now c.args.text.now (sym c.if-begins.ensures.exact)
