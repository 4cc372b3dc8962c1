use Rattle.std.proofs.Common.{rules, ◌≡◌, [], ◌∷◌, ◌++◌, IfOk, subst, ◌∙◌}
use Rattle.tm_word.specs.Prelude.{joined}
use Rattle.tm_line.specs.Namespaces.{line_text}
use Rattle.tm_except.specs.Printing.{rule_words}
use Rattle.tm_vectors.proofs.RuleLaws.{rule_line}
use Rattle.tm_vectors.proofs.lines.printed_rule.Goals as goal

pub returns : goal.returns
returns c =
    let made : c.print_rule-2.new.out.items ≡ line_text [] (rule_words c.args.rule.now) = search rules in
    let line : c.deref.result.now ≡ 32 ∷ (joined (rule_words c.args.rule.now) ++ 10 ∷ []) = c.deref.ensures.value ∙ made ∙ rule_line c.args.rule.now in
    let text : c.between_ends.result.now ≡ joined (rule_words c.args.rule.now) = c.between_ends.ensures (joined (rule_words c.args.rule.now)) 32 10 line in
    subst (λ words. IfOk c.from_bytes.result (λ text. text ≡ words)) text c.from_bytes.ensures
