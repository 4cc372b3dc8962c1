-- What is read is a rule that a line can write, so no other rule is.
use Rattle.std.proofs.Common.{◌≡◌, ℕ, Bool, true, false, ◌&&◌, not, List, [], ◌∷◌, Ok, sym, ◌∙◌}
use Rattle.tm_word.specs.Prelude.{Pattern, Text, Word, texts_equal}
use Rattle.tm_rules.specs.Types.{DomainRule, ExceptRule, FileKind, PolicyLine}
use Rattle.tm_rules.specs.Prelude.{is_domain_name, is_path_word, kernel}
use Rattle.tm_rules.proofs.EqualityLaws.{same_texts}
use Rattle.tm_policy_line.specs.Names.{is_path}
use Rattle.tm_policy_line.proofs.Steps.{both, not_true}
use Rattle.tm_policy_line.specs.ExceptWritten.{is_first, is_listed, is_rule}
use Rattle.tm_policy_line.specs.Reading.{read_line}
use Rattle.tm_policy_line.specs.Written.{is_domain_rule, is_written_rule}
use Rattle.tm_policy_line.proofs.ReadLaws.{read_written}

-- Exception rules

pair_written : (one : Pattern) (other : Word) → is_written_rule (ExceptRule.Aggregator one other) ≡ true → is_path_word other ≡ true
unfolding is_written_rule is_rule
pair_written one other h =
    let rule = both (is_first one && is_path_word other) true h in
    (both (is_first one) (is_path_word other) rule.0).1

pub leads_to_path : (file : FileKind) (text ns : Text) (first : Pattern) (second : Word) → read_line file text ≡ Ok (PolicyLine.Exception (record { delete = false; namespace = ns; rule = ExceptRule.Aggregator first second })) → is_path_word second ≡ true
leads_to_path file text ns first second e = pair_written first second (read_written file text (PolicyLine.Exception (record { delete = false; namespace = ns; rule = ExceptRule.Aggregator first second })) e).1

acl_listed : (n : ℕ) (words : List Text) → ¬ (is_written_rule (ExceptRule.Acl n words) ≡ true)
unfolding is_written_rule
acl_listed n words h = let wrong : false ≡ true = (both (is_rule (ExceptRule.Acl n words)) (is_listed (ExceptRule.Acl n words)) h).1 in cc

pub group_is_read : (file : FileKind) (text ns : Text) (delete : Bool) (n : ℕ) (words : List Text) → ¬ (read_line file text ≡ Ok (PolicyLine.Exception (record { delete = delete; namespace = ns; rule = ExceptRule.Acl n words })))
group_is_read file text ns delete n words e = acl_listed n words (read_written file text (PolicyLine.Exception (record { delete = delete; namespace = ns; rule = ExceptRule.Acl n words })) e).1

-- Domain rules

kernel_deleted : ¬ (is_domain_rule (DomainRule.Delete kernel) ≡ true)
unfolding is_domain_rule
kernel_deleted h =
    let other : texts_equal kernel kernel ≡ false = not_true (texts_equal kernel kernel) (both (is_domain_name is_path kernel) (not (texts_equal kernel kernel)) h).1 in
    let wrong : true ≡ false = sym (same_texts.full kernel) ∙ other in
    cc

pub kernel_stays : (file : FileKind) (text : Text) → ¬ (read_line file text ≡ Ok (PolicyLine.Domain (DomainRule.Delete kernel)))
kernel_stays file text e = kernel_deleted (read_written file text (PolicyLine.Domain (DomainRule.Delete kernel)) e)
