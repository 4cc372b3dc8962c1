-- Exception lines: their printed words are read as that line, and those of ACL groups as the
-- entry's line.
use Rattle.std.proofs.Common.{◌≡◌, ℕ, ◌<◌, nat_lt, Bool, true, List, [], ◌∷◌, Result, Ok, refl, ap, ◌∙◌}
use Rattle.std.proofs.lemmas.Bool.{lt-ltb}
use Rattle.tm_word.specs.Prelude.{Text, ◌>>=◌}
use Rattle.tm_rules.specs.Types.{Entry, ExceptLine, ExceptRule, FileKind, GroupLine, LineKind, PolicyLine, ProfileLine}
use Rattle.tm_line.proofs.Steps.{both, all}
use Rattle.tm_line.specs.Namespaces.{IsNamespace, namespace_at}
use Rattle.tm_entry.specs.Entries.{entry_words, is_entry}
use Rattle.tm_entry.proofs.EntryLaws.{entry_again}
use Rattle.tm_entry.proofs.TextLaws.{acl_first}
use Rattle.tm_except.specs.Reading.{line}
use Rattle.tm_except.specs.Reading.{line_of as except_of}
use Rattle.tm_except.specs.Printing.{line_words}
use Rattle.tm_except.specs.Written.{is_line, is_listed, is_rule}
use Rattle.tm_except.proofs.RuleLaws.{line_again}
use Rattle.tm_profile.specs.Reading.{effect_at}
use Rattle.tm_profile.specs.Reading.{line_of as profile_of}
use Rattle.tm_policy_line.specs.Reading.{with_entry, read_words}
use Rattle.tm_policy_line.specs.Printing.{group_line_words}
use Rattle.tm_policy_line.specs.Written.{is_written_rule}

-- a line of an exception file that was read
except_read : (words : List Text) (l : ExceptLine) → except_of words ≡ Ok l → read_words FileKind.Exception words ≡ with_entry l l.rule
unfolding read_words except_of
except_read [] l e = absurd cc
except_read (word ∷ words) l e = ap (λ (r : Result ExceptLine LineKind). r >>= λ (found : ExceptLine). with_entry found found.rule) e

listed : (l : ExceptLine) (rule : ExceptRule) → is_listed rule ≡ true → with_entry l rule ≡ Ok (PolicyLine.Exception l)
listed l (ExceptRule.PathGroup name member) h = refl
listed l (ExceptRule.NumberGroup name member) h = refl
listed l (ExceptRule.AddressGroup name member) h = refl
listed l (ExceptRule.Aggregator one other) h = refl
listed l (ExceptRule.Control control) h = refl
listed l (ExceptRule.Acl n words) h = absurd cc

pub exception_again : (delete : Bool) (ns : Text) (rule : ExceptRule) → IsNamespace ns → is_written_rule rule ≡ true
    → read_words FileKind.Exception (line_words (line delete ns rule)) ≡ Ok (PolicyLine.Exception (line delete ns rule))
unfolding is_written_rule
exception_again delete ns rule h k =
    let t = both (is_rule rule) (is_listed rule) k in
    except_read (line_words (line delete ns rule)) (line delete ns rule) (line_again delete ns rule h t.0) ∙ listed (line delete ns rule) rule t.1

-- ---- ACL groups

-- an entry has a word or more
pub entry_line : (entry : Entry) → is_line (entry_words entry) ≡ true
unfolding entry_words
entry_line entry = let w = acl_first entry.args entry.perms in rw w.are refl

pub is_group_rule : (n : ℕ) (entry : Entry) → n < 256 → is_rule (ExceptRule.Acl n (entry_words entry)) ≡ true
unfolding is_rule
is_group_rule n entry h = all (nat_lt n 256) (is_line (entry_words entry)) (lt-ltb n 256 h) (entry_line entry)

pub acl_group_again : (group : GroupLine) → IsNamespace group.namespace → group.group < 256 → is_entry group.entry ≡ true → read_words FileKind.Exception (group_line_words group) ≡ Ok (PolicyLine.Group group)
unfolding group_line_words
acl_group_again group h k l =
    let rule : ExceptRule = ExceptRule.Acl group.group (entry_words group.entry) in
    except_read (line_words (line group.delete group.namespace rule)) (line group.delete group.namespace rule) (line_again group.delete group.namespace rule h (is_group_rule group.group group.entry k))
    ∙ ap (λ (r : Result Entry LineKind). r >>= λ entry. Ok (PolicyLine.Group (record { delete = group.delete; namespace = group.namespace; group = group.group; entry = entry }))) (entry_again group.entry l)

-- ---- profile lines

-- a line of a profile file that was read
pub profile_line_read : (words : List Text) (l : ProfileLine) → profile_of words ≡ Ok l → read_words FileKind.Profile words ≡ Ok (PolicyLine.Profile l)
unfolding read_words profile_of namespace_at effect_at
profile_line_read [] l e = absurd cc
profile_line_read (word ∷ words) l e = ap (λ (r : Result ProfileLine LineKind). r >>= λ found. Ok (PolicyLine.Profile found)) e
