use Rattle.std.proofs.Common.{rules, ◌≡◌, [], ◌∷◌, ◌++◌, IfOk, subst, ◌∙◌}
use Rattle.tm_word.specs.Prelude.{joined}
use Rattle.tm_except.specs.Printing.{rule_words}
use Rattle.tm_policy_line.specs.Printing.{printed_line, acl_group_words}
use Rattle.tm_vectors.specs.Answers.{group_rule}
use Rattle.tm_vectors.proofs.RuleLaws.{group_printed}
use Rattle.tm_vectors.proofs.lines.printed_group.Goals as goal

pub returns : goal.returns
returns c =
    let group = c.args.group.now in
    let made : c.print_acl_group_line-2.new.out.items ≡ printed_line (acl_group_words [] group.group group.entry) = search rules in
    let line : c.deref.result.now ≡ 32 ∷ (joined (rule_words (group_rule group)) ++ 10 ∷ []) = c.deref.ensures.value ∙ made ∙ group_printed group.group group.entry in
    let text : c.between_ends.result.now ≡ joined (rule_words (group_rule group)) = c.between_ends.ensures (joined (rule_words (group_rule group))) 32 10 line in
    subst (λ words. IfOk c.from_bytes.result (λ text. text ≡ words)) text c.from_bytes.ensures
