-- A rule's printed line, as what stands between its first byte and its last.
use Rattle.std.proofs.Common.{◌≡◌, ℕ, List, [], ◌∷◌, ◌++◌, refl, ap, append-nil}
use Rattle.std.specs.Prelude.{codes}
use Rattle.std.specs.Fmt.{decimal}
use Rattle.tm_word.specs.Prelude.{Text, joined, spell, spelled_pattern}
use Rattle.tm_line.specs.Lines.{spaced}
use Rattle.tm_line.specs.Namespaces.{line_text}
use Rattle.tm_rules.specs.Types.{Entry, ExceptRule}
use Rattle.tm_entry.specs.Entries.{entry_words}
use Rattle.tm_policy_line.specs.Printing.{printed_line, group_line_words, acl_group_words}
use Rattle.tm_except.specs.Printing.{line_words, rule_words, range_text, addr_range_text, kind_text, program_text, domain_words, path_group_words, number_group_words, address_group_words, aggregator_words, control_words}

spaced_joined : (word : Text) (words : List Text) → spaced (word ∷ words) ≡ 32 ∷ joined (word ∷ words)
spaced_joined word [] = ap (λ t. 32 ∷ t) (append-nil word)
spaced_joined word (other ∷ words) = ap (λ t. 32 ∷ (word ++ t)) (spaced_joined other words)

line_joined : (word : Text) (words : List Text) → line_text [] (word ∷ words) ≡ 32 ∷ (joined (word ∷ words) ++ 10 ∷ [])
line_joined word words = ap (λ t. t ++ 10 ∷ []) (spaced_joined word words)

pub rule_line : (rule : ExceptRule) → line_text [] (rule_words rule) ≡ 32 ∷ (joined (rule_words rule) ++ 10 ∷ [])
unfolding rule_words path_group_words number_group_words address_group_words aggregator_words control_words
rule_line (ExceptRule.PathGroup name member) = line_joined (codes "path_group") (spell name ∷ spelled_pattern member ∷ [])
rule_line (ExceptRule.NumberGroup name member) = line_joined (codes "number_group") (spell name ∷ range_text member ∷ [])
rule_line (ExceptRule.AddressGroup name member) = line_joined (codes "address_group") (spell name ∷ addr_range_text member ∷ [])
rule_line (ExceptRule.Aggregator one other) = line_joined (codes "aggregator") (spelled_pattern one ∷ spell other ∷ [])
rule_line (ExceptRule.Control control) = line_joined (kind_text control.kind) (program_text control.program ∷ codes "from" ∷ domain_words control.domain control.last)
rule_line (ExceptRule.Acl group words) = line_joined (codes "acl_group") (decimal group ∷ words)

-- the line of an ACL group without a namespace word, as a rule's
pub group_printed : (n : ℕ) (entry : Entry) → printed_line (acl_group_words [] n entry) ≡ 32 ∷ (joined (rule_words (ExceptRule.Acl n (entry_words entry))) ++ 10 ∷ [])
unfolding rule_words group_line_words line_words
group_printed n entry = refl
