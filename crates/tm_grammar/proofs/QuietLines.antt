-- A quiet line is read as a quiet rule.
use Rattle.std.proofs.Common.{◌≡◌, ℕ, ◌==◌, Bool, true, false, ◌&&◌, ◌||◌, not, List, [], ◌∷◌, Ok, refl, sym, subst}
use Rattle.std.specs.Prelude.{codes, if◌then◌else◌}
use Rattle.std.specs.List.{AllByRecursion, slice_split}
use Rattle.tm_word.specs.Prelude.{Text, texts_equal, words_of, ◌>>=◌}
use Rattle.tm_rules.specs.Types.{DomainRule, Entry, ExceptLine, ExceptRule, FileKind, PolicyLine}
use Rattle.tm_rules.specs.Prelude.{is_one_of, is_quiet, is_quiet_acl, is_quiet_group, is_quiet_line, is_quiet_rule, kernel, lets_execute, without_namespace}
use Rattle.tm_rules.proofs.EqualityLaws.{same_texts}
use Rattle.tm_policy_line.specs.Lines.{is_last, word_at}
use Rattle.tm_policy_line.specs.Arguments.{plain_word}
use Rattle.tm_policy_line.specs.Domains.{domain_to_end}
use Rattle.tm_policy_line.specs.Namespaces.{opens, namespace_of, namespace_at}
use Rattle.tm_policy_line.proofs.Steps.{both, all, to_not}
use Rattle.tm_policy_line.proofs.OkSteps.{OkIs, then_ok, then_any, each_ok, ok_of}
use Rattle.tm_policy_line.specs.Entries.{entry_of}
use Rattle.tm_policy_line.proofs.QuietLaws.{quiet_entry}
use Rattle.tm_policy_line.specs.ExceptReading.{group_line, acl_group, head_of, rule_at, named_line}
use Rattle.tm_policy_line.specs.ExceptReading.{line_of as except_of}
use Rattle.tm_policy_line.specs.Reading.{name_rule, acl_rule, begins_domain, setting_rule, domain_rule, manager_of, with_entry, read_words, read_line}

abbrev IsQuiet : PolicyLine → Type 0
IsQuiet found = is_quiet_rule found ≡ true

-- The first word of an ACL line

abbrev kinds : List Text
kinds = codes "file" ∷ codes "network" ∷ codes "misc" ∷ codes "task" ∷ []

-- what holds of each word of a list holds of a word that is among them
one_of : (P : Text → Type 0) (word : Text) (list : List Text) → is_one_of word list ≡ true → AllByRecursion P list → P word
one_of P word [] h each = absurd cc
one_of P word (text ∷ list) h each = go (texts_equal word text) refl h (λ later. one_of P word list later each.1)
  where
    go : (b : Bool) → texts_equal word text ≡ b → (b || is_one_of word list) ≡ true → (is_one_of word list ≡ true → P word) → P word
    go true e k later = subst P (sym (same_texts.sound word text e)) each.0
    go false e k later = later k

kind_is : (word : Text) (words : List Text) → is_quiet_acl (word ∷ words) ≡ true → is_one_of word kinds ≡ true
kind_is word [] h = h
kind_is word (permissions ∷ words) h = (both (is_one_of word kinds) (not (is_one_of (codes "execute") (slice_split (λ b. b == 47) permissions))) h).0

-- Domain lines

abbrev IsQuietDomain : DomainRule → Type 0
IsQuietDomain rule = IsQuiet (PolicyLine.Domain rule)

abbrev IsStill : Entry → Type 0
IsStill entry = lets_execute entry ≡ false

entry_quiet : (words : List Text) → is_quiet_acl words ≡ true → OkIs IsStill (entry_of words)
entry_quiet words h = each_ok IsStill (entry_of words) (λ entry e. quiet_entry words entry h e)

acl_quiet : (unfinished : Bool) (words : List Text) → is_quiet_acl words ≡ true → OkIs IsQuietDomain (acl_rule unfinished false words)
acl_quiet true words h = tt
acl_quiet false words h = then_ok IsStill IsQuietDomain (entry_of words) _ (entry_quiet words h) (λ entry k. to_not (lets_execute entry) k)

select_quiet : (words : List Text) → OkIs IsQuietDomain (name_rule DomainRule.Select words)
select_quiet words = then_any IsQuietDomain (domain_to_end words) _ (λ name. refl)

select_line : (words : List Text) → OkIs IsQuietDomain (domain_rule (codes "select") words)
unfolding domain_rule
select_line words = select_quiet words

-- an ACL line stands after no other leading word
abbrev ReadsQuiet : List Text → Text → Type 0
ReadsQuiet words word = is_quiet_acl (word ∷ words) ≡ true → OkIs IsQuietDomain (domain_rule word words)

acl_lines : (words : List Text) → AllByRecursion (ReadsQuiet words) kinds
unfolding domain_rule setting_rule
acl_lines words = (
  λ h. acl_quiet (is_last words && begins_domain (codes "file")) (codes "file" ∷ words) h,
  (
    λ h. acl_quiet (is_last words && begins_domain (codes "network")) (codes "network" ∷ words) h,
    (
      λ h. acl_quiet (is_last words && begins_domain (codes "misc")) (codes "misc" ∷ words) h,
      (λ h. acl_quiet (is_last words && begins_domain (codes "task")) (codes "task" ∷ words) h, tt),
    ),
  ),
)

domain_quiet : (word : Text) (words : List Text) → (texts_equal word (codes "select") || is_quiet_acl (word ∷ words)) ≡ true → OkIs IsQuietDomain (domain_rule word words)
domain_quiet word words h = go (texts_equal word (codes "select")) refl h
  where
    go : (b : Bool) → texts_equal word (codes "select") ≡ b → (b || is_quiet_acl (word ∷ words)) ≡ true → OkIs IsQuietDomain (domain_rule word words)
    go true e k = subst (λ first. OkIs IsQuietDomain (domain_rule first words)) (sym (same_texts.sound word (codes "select") e)) (select_line words)
    go false e k = one_of (ReadsQuiet words) word kinds (kind_is word words k) (acl_lines words) k

-- Exception lines

-- the line of an ACL group that adds such an entry
abbrev IsQuietGroup : ExceptRule → Type 0
IsQuietGroup (ExceptRule.PathGroup name member) = ⊥
IsQuietGroup (ExceptRule.NumberGroup name member) = ⊥
IsQuietGroup (ExceptRule.AddressGroup name member) = ⊥
IsQuietGroup (ExceptRule.Aggregator one other) = ⊥
IsQuietGroup (ExceptRule.Control control) = ⊥
IsQuietGroup (ExceptRule.Acl n words) = is_quiet_acl words ≡ true

line_quiet : (n : ℕ) (words : List Text) → is_quiet_acl words ≡ true → OkIs IsQuietGroup (group_line n words)
line_quiet n [] h = tt
line_quiet n (word ∷ words) h = h

group_quiet : (group : Text) (words : List Text) → is_quiet_acl words ≡ true → OkIs IsQuietGroup (acl_group (group ∷ words))
unfolding acl_group
group_quiet group words h =
    then_ok (λ (found : ℕ × List Text). is_quiet_acl found.1 ≡ true) IsQuietGroup (word_at (plain_word 256) (group ∷ words)) _
    (then_any (λ (found : ℕ × List Text). is_quiet_acl found.1 ≡ true) (plain_word 256 group) _ (λ n. h)) (λ found k. line_quiet found.0 found.1 k)

acl_rule_quiet : (first : Bool) (group : Text) (words : List Text) → is_quiet_acl words ≡ true → OkIs IsQuietGroup (rule_at first (codes "acl_group" ∷ group ∷ words))
unfolding rule_at head_of
acl_rule_quiet first group words h = group_quiet group words h

rule_quiet : (first : Bool) (words : List Text) → is_quiet_group words ≡ true → OkIs IsQuietGroup (rule_at first words)
rule_quiet first [] h = absurd cc
rule_quiet first (word ∷ []) h = absurd cc
rule_quiet first (word ∷ group ∷ words) h =
    let found = both (texts_equal word (codes "acl_group")) (is_quiet_acl words) h in
    subst (λ w. OkIs IsQuietGroup (rule_at first (w ∷ group ∷ words))) (sym (same_texts.sound word (codes "acl_group") found.0)) (acl_rule_quiet first group words found.1)

abbrev IsQuietRest : Text × List Text → Type 0
IsQuietRest found = is_quiet_group found.1 ≡ true

opened_rest : (word : Text) (words : List Text) (b : Bool) → is_quiet_group (if b then words else word ∷ words) ≡ true → OkIs IsQuietRest (if b then (namespace_of word >>= λ name. Ok (name, words)) else Ok (kernel, word ∷ words))
opened_rest word words true h = then_any IsQuietRest (namespace_of word) _ (λ name. h)
opened_rest word words false h = h

rest_quiet : (words : List Text) → is_quiet_group (without_namespace words) ≡ true → OkIs IsQuietRest (namespace_at words)
unfolding namespace_at
rest_quiet [] h = absurd cc
rest_quiet ([] ∷ words) h = h
rest_quiet ((b ∷ word) ∷ words) h = opened_rest (b ∷ word) words (b == 60) h

abbrev AddsQuiet : ExceptLine → Type 0
AddsQuiet found = (found.delete ≡ false) × IsQuietGroup found.rule

named_quiet : (words : List Text) → is_quiet_group (without_namespace words) ≡ true → OkIs AddsQuiet (named_line false words)
unfolding named_line
named_quiet [] h = absurd cc
named_quiet (word ∷ words) h =
    then_ok IsQuietRest AddsQuiet (namespace_at (word ∷ words)) _ (rest_quiet (word ∷ words) h)
    (λ found k. then_ok IsQuietGroup AddsQuiet (rule_at (not (opens word)) found.1) _ (rule_quiet (not (opens word)) found.1 k) (λ rule l. (refl, l)))

-- a quiet line doesn't begin with `delete`
deleted_is_loud : (words : List Text) → is_quiet_group (codes "delete" ∷ words) ≡ true → ⊥
deleted_is_loud [] h = cc
deleted_is_loud (word ∷ words) h = cc

except_quiet : (word : Text) (words : List Text) → is_quiet_group (without_namespace (word ∷ words)) ≡ true → OkIs AddsQuiet (except_of (word ∷ words))
unfolding except_of
except_quiet word words h = go (texts_equal word (codes "delete")) refl
  where
    go : (b : Bool) → texts_equal word (codes "delete") ≡ b → OkIs AddsQuiet (if b then named_line true words else named_line false (word ∷ words))
    go true e = absurd (deleted_is_loud words (subst (λ w. is_quiet_group (without_namespace (w ∷ words)) ≡ true) (same_texts.sound word (codes "delete") e) h))
    go false e = named_quiet (word ∷ words) h

added_quiet : (found : ExceptLine) (rule : ExceptRule) → found.delete ≡ false → IsQuietGroup rule → OkIs IsQuiet (with_entry found rule)
added_quiet found (ExceptRule.PathGroup name member) d h = absurd h
added_quiet found (ExceptRule.NumberGroup name member) d h = absurd h
added_quiet found (ExceptRule.AddressGroup name member) d h = absurd h
added_quiet found (ExceptRule.Aggregator one other) d h = absurd h
added_quiet found (ExceptRule.Control control) d h = absurd h
added_quiet found (ExceptRule.Acl n words) d h =
    then_ok IsStill IsQuiet (entry_of words) _ (entry_quiet words h) (λ entry k. all (not found.delete) (not (lets_execute entry)) (to_not found.delete d) (to_not (lets_execute entry) k))

-- Every line

words_quiet : (file : FileKind) (words : List Text) → is_quiet_line file words ≡ true → OkIs IsQuiet (read_words file words)
unfolding read_words
words_quiet file [] h = refl
words_quiet FileKind.Profile (word ∷ words) h = absurd cc
words_quiet FileKind.Exception (word ∷ words) h = then_ok AddsQuiet IsQuiet (except_of (word ∷ words)) _ (except_quiet word words h) (λ found k. added_quiet found found.rule k.0 k.1)
words_quiet FileKind.Domain (word ∷ words) h = then_ok IsQuietDomain IsQuiet (domain_rule word words) _ (domain_quiet word words h) (λ rule k. k)
words_quiet FileKind.Manager (word ∷ words) h = then_any IsQuiet (manager_of (word ∷ words)) _ (λ found. refl)

pub quiet_read : (file : FileKind) (text : Text) (found : PolicyLine) → is_quiet file text ≡ true → read_line file text ≡ Ok found → is_quiet_rule found ≡ true
unfolding is_quiet read_line
quiet_read file text found h e = ok_of IsQuiet (read_words file (words_of text)) found (words_quiet file (words_of text) h) e
