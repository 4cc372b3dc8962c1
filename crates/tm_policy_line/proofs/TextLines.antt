-- Printed lines: a line is its words joined by single spaces, and byte 10.
use Rattle.std.proofs.Common.{◌≡◌, ℕ, true, List, [], ◌∷◌, ◌++◌, refl, sym, ap, ◌∙◌, append_assoc}
use Rattle.std.specs.Prelude.{codes, decimal}
use Rattle.std.specs.List.{list_all}
use Rattle.std.proofs.lemmas.List.Splits.{join_with_byte-slice_split}
use Rattle.tm_word.specs.Prelude.{Text, is_word, joined}
use Rattle.tm_rules.specs.Types.{Entry, FileKind}
use Rattle.tm_rules.specs.Prelude.{DomainName}
use Rattle.tm_line.specs.Lines.{spaced}
use Rattle.tm_line.specs.DomainWords.{domain_parts}
use Rattle.tm_line.proofs.JoinLaws.{joined_is}
use Rattle.tm_line.proofs.WholeLaws.{words_again}
use Rattle.tm_line.specs.Namespaces.{line_text as named_text}
use Rattle.tm_entry.specs.Entries.{entry_words}
use Rattle.tm_entry.proofs.TextLaws.{acl_first}
use Rattle.tm_entry.specs.Reading.{cond_words}
use Rattle.tm_except.specs.Printing.{rule_words, line_words}
use Rattle.tm_policy_line.specs.Reading.{read_words, read_line}
use Rattle.tm_policy_line.specs.Printing.{printed_line, group_line_words, acl_group_words}

-- words that were joined are the words of their line
pub joined_line : (file : FileKind) (words : List Text) → list_all is_word words ≡ true → read_line file (joined words) ≡ read_words file words
unfolding read_line
joined_line file words h = ap (read_words file) (words_again words h)

-- the words of a domain name or a manager are its text
pub name_joined : (name : DomainName) → joined (domain_parts name) ≡ name
name_joined name = join_with_byte-slice_split 32 name

-- a line with a namespace word in front
pub named_joined : (ns : Text) (words : List Text) → named_text ns words ≡ printed_line (ns ∷ words)
named_joined ns words = sym (append_assoc ns (spaced words) (10 ∷ [])) ∙ ap (λ text. text ++ 10 ∷ []) (sym (joined_is ns words))

-- the line of an ACL group
pub acl_joined : (name : Text) (n : ℕ) (entry : Entry)
    → (name ++ codes " acl_group " ++ decimal n ++ 32 ∷ []) ++ printed_line (entry_words entry) ≡ printed_line (acl_group_words name n entry)
unfolding group_line_words line_words rule_words entry_words
acl_joined name n entry =
    let w = acl_first entry.args entry.perms in
    first (entry_words entry) w.first (w.rest ++ cond_words entry.cond) (ap (λ ws. ws ++ cond_words entry.cond) w.are)
  where
    first : (words : List Text) (one : Text) (rest : List Text) → words ≡ one ∷ rest
        → (name ++ codes " acl_group " ++ decimal n ++ 32 ∷ []) ++ printed_line words ≡ printed_line (name ∷ codes "acl_group" ∷ decimal n ∷ words)
    first words one rest e = rw e (simp (append_assoc) refl)
