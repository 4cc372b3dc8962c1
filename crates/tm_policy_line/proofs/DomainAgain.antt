-- Domain lines: their printed words are read as that line.
use Rattle.std.proofs.Common.{◌≡◌, ℕ, ◌<◌, Bool, true, false, not, List, ◌∷◌, ◌++◌, Result, Ok, refl, sym, ap, ◌∙◌, arith}
use Rattle.std.specs.Prelude.{codes}
use Rattle.std.proofs.lemmas.Bool.{ltb-true}
use Rattle.tm_word.specs.Prelude.{Text, texts_equal, ◌>>=◌}
use Rattle.tm_rules.specs.Types.{Args, DomainRule, Entry, FileKind, LineKind, Perms, PolicyLine}
use Rattle.tm_rules.specs.Prelude.{DomainName, is_domain_name, kernel}
use Rattle.tm_line.specs.Names.{is_path}
use Rattle.tm_line.specs.Domains.{domain_to_end}
use Rattle.tm_line.specs.DomainWords.{domain_parts}
use Rattle.tm_line.proofs.Steps.{both, not_true}
use Rattle.tm_line.proofs.DomainLaws.{parts_begin, to_end_again}
use Rattle.tm_line.proofs.NumberArgLaws.{plain_again}
use Rattle.tm_entry.specs.FileLines.{file_words}
use Rattle.tm_entry.specs.NetLines.{net_words}
use Rattle.tm_entry.specs.Reading.{cond_words}
use Rattle.tm_entry.specs.Entries.{entry_of, acl_words, entry_words, is_entry}
use Rattle.tm_entry.proofs.EntryLaws.{entry_again}
use Rattle.tm_policy_line.specs.Reading.{begins_setting, begins_domain, setting_rule, delete_domain, delete_rule, domain_rule, read_words}
use Rattle.tm_policy_line.specs.Printing.{deleted, profile_words, group_words, quota_words, failed_words, domain_rule_words}
use Rattle.tm_policy_line.specs.Written.{is_domain_rule}

abbrev IsRead : List Text → DomainRule → Type 0
IsRead words rule = read_words FileKind.Domain words ≡ Ok (PolicyLine.Domain rule)

-- ---- names

choose_front : (rest : Text) (paths : List Text) (name : DomainName) → domain_to_end ((60 ∷ rest) ∷ paths) ≡ Ok name → IsRead ((60 ∷ rest) ∷ paths) (DomainRule.Choose name)
unfolding read_words domain_rule
choose_front rest paths name e = rw e refl

choose_from : (words : List Text) (rest : Text) (paths : List Text) (name : DomainName) → words ≡ (60 ∷ rest) ∷ paths → domain_to_end words ≡ Ok name → IsRead words (DomainRule.Choose name)
choose_from words rest paths name is e = ap (read_words FileKind.Domain) is ∙ choose_front rest paths name (ap domain_to_end (sym is) ∙ e)

pub choose_again : (name : DomainName) → is_domain_name is_path name ≡ true → read_words FileKind.Domain (domain_parts name) ≡ Ok (PolicyLine.Domain (DomainRule.Choose name))
choose_again name h = let b = parts_begin name h in choose_from (domain_parts name) b.rest b.paths name b.are (to_end_again name h)

pub select_again : (name : DomainName) → is_domain_name is_path name ≡ true → IsRead (codes "select" ∷ domain_parts name) (DomainRule.Select name)
unfolding read_words domain_rule
select_again name h = rw (to_end_again name h) refl

delete_front : (rest : Text) (paths : List Text) (name : DomainName) → texts_equal name kernel ≡ false → domain_to_end ((60 ∷ rest) ∷ paths) ≡ Ok name → delete_rule ((60 ∷ rest) ∷ paths) ≡ Ok (DomainRule.Delete name)
unfolding delete_rule delete_domain
delete_front rest paths name other e = rw (e, other) refl

delete_from : (words : List Text) (rest : Text) (paths : List Text) (name : DomainName) → texts_equal name kernel ≡ false → words ≡ (60 ∷ rest) ∷ paths → domain_to_end words ≡ Ok name → delete_rule words ≡ Ok (DomainRule.Delete name)
delete_from words rest paths name other is e = ap delete_rule is ∙ delete_front rest paths name other (ap domain_to_end (sym is) ∙ e)

pub delete_again : (name : DomainName) → is_domain_name is_path name ≡ true → texts_equal name kernel ≡ false → IsRead (codes "delete" ∷ domain_parts name) (DomainRule.Delete name)
unfolding read_words domain_rule
delete_again name h other =
    let b = parts_begin name h in
    rw (delete_from (domain_parts name) b.rest b.paths name other b.are (to_end_again name h)) refl

-- ---- numbers and flags

pub profile_again : (n : ℕ) → n < 256 → read_words FileKind.Domain (profile_words n) ≡ Ok (PolicyLine.Domain (DomainRule.UseProfile n))
unfolding read_words domain_rule
profile_again n h = rw (plain_again 256 n h (omega (arith, h))) refl

pub group_again : (delete : Bool) (n : ℕ) → n < 256 → read_words FileKind.Domain (deleted delete (group_words n)) ≡ Ok (PolicyLine.Domain (DomainRule.UseGroup delete n))
unfolding read_words domain_rule delete_rule setting_rule
group_again true n h = rw (plain_again 256 n h (omega (arith, h))) refl
group_again false n h = rw (plain_again 256 n h (omega (arith, h))) refl

pub quota_again : (delete : Bool) → read_words FileKind.Domain (deleted delete quota_words) ≡ Ok (PolicyLine.Domain (DomainRule.QuotaExceeded delete))
unfolding read_words domain_rule delete_rule setting_rule
quota_again true = refl
quota_again false = refl

pub failed_again : (delete : Bool) → read_words FileKind.Domain (deleted delete failed_words) ≡ Ok (PolicyLine.Domain (DomainRule.TransitionFailed delete))
unfolding read_words domain_rule delete_rule setting_rule
failed_again true = refl
failed_again false = refl

-- ---- entries

-- a line that begins with `file`, `network`, `misc` or `task` and has further words is an ACL line
abbrev entry_line : Bool → Result Entry LineKind → Result PolicyLine LineKind
entry_line delete read = (read >>= λ entry. Ok (DomainRule.Acl delete entry)) >>= λ rule. Ok (PolicyLine.Domain rule)

acl_first : (delete : Bool) (args : Args) (perms : Perms) (more : List Text) → read_words FileKind.Domain (deleted delete (acl_words args perms ++ more)) ≡ entry_line delete (entry_of (acl_words args perms ++ more))
unfolding read_words domain_rule delete_rule setting_rule begins_setting begins_domain acl_words file_words net_words
acl_first true (Args.Path name) perms more = refl
acl_first true (Args.Execute name prefer) perms more = refl
acl_first true (Args.PathNumber name number) perms more = refl
acl_first true (Args.Device name mode major minor) perms more = refl
acl_first true (Args.Path2 first second) perms more = refl
acl_first true (Args.Mount device dir type flags) perms more = refl
acl_first true (Args.Inet kind address port) perms more = refl
acl_first true (Args.Unix kind name) perms more = refl
acl_first true (Args.Env pattern_) perms more = refl
acl_first true (Args.Manual domain) perms more = refl
acl_first false (Args.Path name) perms more = refl
acl_first false (Args.Execute name prefer) perms more = refl
acl_first false (Args.PathNumber name number) perms more = refl
acl_first false (Args.Device name mode major minor) perms more = refl
acl_first false (Args.Path2 first second) perms more = refl
acl_first false (Args.Mount device dir type flags) perms more = refl
acl_first false (Args.Inet kind address port) perms more = refl
acl_first false (Args.Unix kind name) perms more = refl
acl_first false (Args.Env pattern_) perms more = refl
acl_first false (Args.Manual domain) perms more = refl

entry_first : (delete : Bool) (entry : Entry) → read_words FileKind.Domain (deleted delete (entry_words entry)) ≡ entry_line delete (entry_of (entry_words entry))
unfolding entry_words
entry_first delete entry = acl_first delete entry.args entry.perms (cond_words entry.cond)

pub acl_again : (delete : Bool) (entry : Entry) → is_entry entry ≡ true → read_words FileKind.Domain (deleted delete (entry_words entry)) ≡ Ok (PolicyLine.Domain (DomainRule.Acl delete entry))
acl_again delete entry h = entry_first delete entry ∙ ap (entry_line delete) (entry_again entry h)

-- ---- every domain line

pub domain_again : (rule : DomainRule) → is_domain_rule rule ≡ true → read_words FileKind.Domain (domain_rule_words rule) ≡ Ok (PolicyLine.Domain rule)
unfolding is_domain_rule domain_rule_words
domain_again (DomainRule.Choose name) h = choose_again name h
domain_again (DomainRule.Select name) h = select_again name h
domain_again (DomainRule.Delete name) h =
    let t = both (is_domain_name is_path name) (not (texts_equal name kernel)) h in
    delete_again name t.0 (not_true (texts_equal name kernel) t.1)
domain_again (DomainRule.UseProfile n) h = profile_again n (ltb-true n 256 h)
domain_again (DomainRule.UseGroup delete n) h = group_again delete n (ltb-true n 256 h)
domain_again (DomainRule.QuotaExceeded delete) h = quota_again delete
domain_again (DomainRule.TransitionFailed delete) h = failed_again delete
domain_again (DomainRule.Acl delete entry) h = acl_again delete entry h
