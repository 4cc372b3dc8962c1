-- Printed lines are made of words.
use Rattle.std.proofs.Common.{◌≡◌, ℕ, ◌<◌, Bool, true, false, not, List, [], refl}
use Rattle.std.specs.Prelude.{decimal}
use Rattle.std.specs.List.{list_all}
use Rattle.std.proofs.lemmas.Bool.{ltb-true}
use Rattle.tm_word.specs.Prelude.{Text, is_word, texts_equal}
use Rattle.tm_rules.specs.Types.{DomainRule, Entry, ExceptRule, GroupLine}
use Rattle.tm_rules.specs.Prelude.{is_domain_name, kernel}
use Rattle.tm_line.specs.Names.{is_path}
use Rattle.tm_line.proofs.Steps.{both}
use Rattle.tm_line.proofs.WholeLaws.{parts_are}
use Rattle.tm_entry.specs.Entries.{entry_words, is_entry}
use Rattle.tm_entry.proofs.EntryText.{entry_are}
use Rattle.tm_except.specs.Reading.{line}
use Rattle.tm_except.specs.Printing.{rule_words, line_words}
use Rattle.tm_except.specs.Written.{is_listed, is_rule}
use Rattle.tm_policy_line.specs.Printing.{deleted, group_words, domain_rule_words, group_line_words}
use Rattle.tm_except.proofs.PrintedWords.{more, number_word, listed_are, in_line}
use Rattle.tm_policy_line.specs.Written.{is_written_rule, is_domain_rule}

abbrev AreWords : List Text → Type 0
AreWords words = list_all is_word words ≡ true

-- ---- rules of namespaces

pub rule_are : (rule : ExceptRule) → is_written_rule rule ≡ true → list_all is_word (rule_words rule) ≡ true
unfolding is_written_rule
rule_are rule h = let t = both (is_rule rule) (is_listed rule) h in listed_are rule t.0 t.1

pub line_are : (delete : Bool) (ns : Text) (rule : ExceptRule) → is_word ns ≡ true → is_written_rule rule ≡ true → list_all is_word (line_words (line delete ns rule)) ≡ true
line_are delete ns rule h k = in_line delete ns rule h (rule_are rule k)

acl_are : (n : ℕ) (entry : Entry) → n < 256 → is_entry entry ≡ true → AreWords (rule_words (ExceptRule.Acl n (entry_words entry)))
unfolding rule_words
acl_are n entry h k = more (decimal n) (entry_words entry) (number_word n h) (entry_are entry k)

pub group_line_are : (group : GroupLine) → is_word group.namespace ≡ true → group.group < 256 → is_entry group.entry ≡ true → list_all is_word (group_line_words group) ≡ true
unfolding group_line_words
group_line_are group h k l = in_line group.delete group.namespace (ExceptRule.Acl group.group (entry_words group.entry)) h (acl_are group.group group.entry k l)

-- ---- domain lines

pub deleted_are : (delete : Bool) (words : List Text) → list_all is_word words ≡ true → list_all is_word (deleted delete words) ≡ true
deleted_are true words h = h
deleted_are false words h = h

pub domain_are : (rule : DomainRule) → is_domain_rule rule ≡ true → list_all is_word (domain_rule_words rule) ≡ true
unfolding is_domain_rule domain_rule_words
domain_are (DomainRule.Choose name) h = parts_are name h
domain_are (DomainRule.Select name) h = parts_are name h
domain_are (DomainRule.Delete name) h = parts_are name (both (is_domain_name is_path name) (not (texts_equal name kernel)) h).0
domain_are (DomainRule.UseProfile n) h = more (decimal n) [] (number_word n (ltb-true n 256 h)) refl
domain_are (DomainRule.UseGroup delete n) h = deleted_are delete (group_words n) (more (decimal n) [] (number_word n (ltb-true n 256 h)) refl)
domain_are (DomainRule.QuotaExceeded true) h = refl
domain_are (DomainRule.QuotaExceeded false) h = refl
domain_are (DomainRule.TransitionFailed true) h = refl
domain_are (DomainRule.TransitionFailed false) h = refl
domain_are (DomainRule.Acl delete entry) h = deleted_are delete (entry_words entry) (entry_are entry h)
