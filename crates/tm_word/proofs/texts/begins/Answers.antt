use Rattle.std.proofs.Common.{◌≡◌, ◌≤◌, ◌+◌, nat_le, false, length, sym, ◌∙◌, arith, rules}
use Rattle.std.proofs.lemmas.Bool.Decides.{nat_tests}
use Rattle.tm_word.proofs.TextLaws.{begins_is, begins_not}
use Rattle.tm_word.proofs.texts.begins.Goals as goal

pub returns-then-front-whole-clause-exact : goal.returns-then-front-whole-clause-exact
returns-then-front-whole-clause-exact c = c.bytes_equal.ensures ∙ sym (begins_is c.args.front.now c.args.whole.now c.if-front-whole.true)

pub returns-else-front-whole-clause-exact : goal.returns-else-front-whole-clause-exact
returns-else-front-whole-clause-exact c =
    let more = c.if-front-whole.false in
    let longer : length c.args.whole.now + 1 ≤ length c.args.front.now = omega (arith, more) in
    let no : nat_le (length c.args.front.now) (length c.args.whole.now) ≡ false = search (rules, nat_tests) in
    no ∙ sym (begins_not c.args.front.now c.args.whole.now longer)
