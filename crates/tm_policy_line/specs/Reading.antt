-- One line of a policy file: what it says, and the kind of the first word at which it can't go on.
use Rattle.std.specs.Prelude.{ℕ, ◌&&◌, ◌||◌, not, if◌then◌else◌, Bool, true, false, List, [], ◌∷◌, codes, Result, Ok, Err}
use Rattle.tm_word.specs.Prelude.{Text, begins, begins_with_byte, texts_equal, words_of, ◌>>=◌}
use Rattle.tm_rules.specs.Types.{DomainRule, Entry, ExceptLine, ExceptRule, FileKind, LineKind, ManagerRule, PolicyLine}
use Rattle.tm_rules.specs.Prelude.{DomainName, kernel}
use Rattle.tm_line.specs.Lines.{is_last, ended, keyword_kind, option_at, word_at}
use Rattle.tm_line.specs.Arguments.{plain_word}
use Rattle.tm_line.specs.Domains.{domain_to_end}
use Rattle.tm_line.specs.Namespaces.{opens}
use Rattle.tm_entry.specs.Entries.{entry_of}
use Rattle.tm_except.specs.Reading.{literal_word}
use Rattle.tm_except.specs.Reading.{line_of as except_of}
use Rattle.tm_profile.specs.Reading.{line_of as profile_of}

-- Domain lines

-- a rule with the domain name that runs to the line's end
abbrev pub name_rule : (DomainName → DomainRule) → List Text → Result DomainRule LineKind
name_rule rule words = domain_to_end words >>= λ name. Ok (rule name)

-- a rule with a number from 0 to 255
abbrev pub number_rule : (ℕ → DomainRule) → List Text → Result DomainRule LineKind
number_rule rule words = word_at (plain_word 256) words >>= λ n. ended (rule n.0) n.1

-- an ACL line, or a word that is no leading word; an unfinished one as the last word is a missing
-- word
abbrev pub acl_rule : Bool → Bool → List Text → Result DomainRule LineKind
acl_rule true delete words = Err LineKind.Arity
acl_rule false delete words = entry_of words >>= λ entry. Ok (DomainRule.Acl delete entry)

-- `use_group` or a flag begins so
unfoldable pub begins_setting : Text → Bool
begins_setting word =
    begins word (codes "use_group") || begins word (codes "quota_exceeded")
    || begins word (codes "transition_failed")

-- a leading word but those of ACL lines begins so
unfoldable pub begins_domain : Text → Bool
begins_domain word =
    begins word (codes "select") || begins word (codes "delete")
    || begins word (codes "use_profile") || begins_setting word

-- the group, the flag or the ACL line that is added, or removed after `delete`
unfoldable pub setting_rule : Bool → Bool → Text → List Text → Result DomainRule LineKind
setting_rule unfinished delete word words =
    if texts_equal word (codes "use_group")
    then number_rule (DomainRule.UseGroup delete) words
    else if texts_equal word (codes "quota_exceeded")
    then ended (DomainRule.QuotaExceeded delete) words
    else if texts_equal word (codes "transition_failed")
    then ended (DomainRule.TransitionFailed delete) words
    else acl_rule (is_last words && unfinished) delete (word ∷ words)

-- `<kernel>` is never deleted
unfoldable pub delete_domain : DomainName → Result DomainRule LineKind
delete_domain name =
    if texts_equal name kernel then Err LineKind.KernelDomain else Ok (DomainRule.Delete name)

-- what stands after `delete`
unfoldable pub delete_rule : List Text → Result DomainRule LineKind
delete_rule [] = Err LineKind.Arity
delete_rule (word ∷ words) =
    if opens word then domain_to_end (word ∷ words) >>= delete_domain
    else setting_rule (begins_setting word) true word words

-- a line of the domain policy: its first word, and the others
unfoldable pub domain_rule : Text → List Text → Result DomainRule LineKind
domain_rule word words =
    if opens word
    then name_rule DomainRule.Choose (word ∷ words)
    else if texts_equal word (codes "select")
    then name_rule DomainRule.Select words
    else if texts_equal word (codes "delete")
    then delete_rule words
    else if texts_equal word (codes "use_profile")
    then number_rule DomainRule.UseProfile words
    else setting_rule (begins_domain word) false word words

-- Manager lines

-- `delete` may stand at the very front alone
unfoldable pub begins_manager : Bool → Text → Bool
begins_manager first word =
    begins word (codes "manage_by_non_root") || first && begins word (codes "delete")

-- `manage_by_non_root`, a domain name, or one literal path; its text is kept as it is written
unfoldable pub manager_rule : Bool → List Text → Result ManagerRule LineKind
manager_rule first [] = Err LineKind.Arity
manager_rule first (word ∷ words) =
    if texts_equal word (codes "manage_by_non_root")
    then ended ManagerRule.ByNonRoot words
    else if opens word
    then (domain_to_end (word ∷ words) >>= λ name. Ok (ManagerRule.Name name))
    else if begins_with_byte 47 word
    then (literal_word word >>= λ path. ended (ManagerRule.Name word) words)
    else Err (keyword_kind (is_last words && begins_manager first word))

-- a line of the manager file: whether it deletes, and its rule
unfoldable pub manager_of : List Text → Result (Bool × ManagerRule) LineKind
manager_of words =
    let found : Bool × List Text = option_at (codes "delete") words in
    manager_rule (not found.0) found.1 >>= λ rule. Ok (found.0, rule)

-- Lines of any file

-- the line of an ACL group with its entry
abbrev pub with_group : ExceptLine → ℕ → Entry → PolicyLine
with_group line n entry =
    PolicyLine.Group
    (record { delete = line.delete; namespace = line.namespace; group = n; entry = entry })

-- the line of an ACL group is read as an ACL line; every other rule is done as it is
abbrev pub with_entry : ExceptLine → ExceptRule → Result PolicyLine LineKind
with_entry line (ExceptRule.PathGroup name member) = Ok (PolicyLine.Exception line)
with_entry line (ExceptRule.NumberGroup name member) = Ok (PolicyLine.Exception line)
with_entry line (ExceptRule.AddressGroup name member) = Ok (PolicyLine.Exception line)
with_entry line (ExceptRule.Aggregator one other) = Ok (PolicyLine.Exception line)
with_entry line (ExceptRule.Control control) = Ok (PolicyLine.Exception line)
with_entry line (ExceptRule.Acl n words) = entry_of words >>= λ entry. Ok (with_group line n entry)

-- the line of a file with these words; without words it does nothing
unfoldable pub read_words : FileKind → List Text → Result PolicyLine LineKind
read_words file [] = Ok PolicyLine.Nothing
read_words FileKind.Profile (word ∷ words) =
    profile_of (word ∷ words) >>= λ line. Ok (PolicyLine.Profile line)
read_words FileKind.Exception (word ∷ words) =
    except_of (word ∷ words) >>= λ line. with_entry line line.rule
read_words FileKind.Domain (word ∷ words) =
    domain_rule word words >>= λ rule. Ok (PolicyLine.Domain rule)
read_words FileKind.Manager (word ∷ words) =
    manager_of (word ∷ words) >>= λ found. Ok (PolicyLine.Manager found.0 found.1)

-- the line of a file that a text writes
unfoldable pub read_line : FileKind → Text → Result PolicyLine LineKind
read_line file text = read_words file (words_of text)
