-- What is read can be written.
use Rattle.std.proofs.Common.{◌≡◌, ℕ, ◌<◌, nat_lt, Bool, true, false, ◌&&◌, ◌||◌, not, List, [], ◌∷◌, Option, Some, None, Ok, Err, refl, sym, ap, subst}
use Rattle.std.specs.Prelude.{codes, if◌then◌else◌, is_some}
use Rattle.std.specs.List.{list_all}
use Rattle.std.proofs.lemmas.Bool.{lt-ltb, ltb-true}
use Rattle.tm_word.specs.Prelude.{Text, Word, begins_with_byte, is_word, spelled_word, texts_equal, words_of}
use Rattle.tm_rules.specs.Types.{DomainRule, Entry, ExceptLine, ExceptRule, FileKind, LineKind, ManagerRule, PolicyLine, ProfileLine}
use Rattle.tm_rules.specs.Prelude.{DomainName, is_domain_name, kernel}
use Rattle.tm_line.specs.Names.{is_path}
use Rattle.tm_line.specs.Lines.{is_last, ended, or_kind, option_at, word_at}
use Rattle.tm_line.specs.Arguments.{plain_word}
use Rattle.tm_line.specs.Domains.{domain_to_end}
use Rattle.tm_line.proofs.Steps.{both, all, to_not}
use Rattle.tm_line.proofs.DomainLaws.{to_end_right}
use Rattle.tm_line.proofs.NumberArgLaws.{plain_read}
use Rattle.tm_line.specs.Namespaces.{opens, namespace_at, IsNamespace}
use Rattle.tm_line.proofs.NamespaceLaws.{found_is}
use Rattle.tm_line.proofs.OkSteps.{OkIs, then_ok, then_any, if_ok, each_ok, word_ok, ok_of}
use Rattle.tm_entry.specs.Entries.{entry_of, is_entry}
use Rattle.tm_entry.proofs.EntryLaws.{entry_read}
use Rattle.tm_except.specs.Reading.{literal_word}
use Rattle.tm_except.specs.Reading.{line_of as except_of}
use Rattle.tm_except.specs.Written.{is_line, is_rule}
use Rattle.tm_except.proofs.FoundLaws.{line_found}
use Rattle.tm_profile.specs.Reading.{effect_at}
use Rattle.tm_profile.specs.Reading.{line_of as profile_of}
use Rattle.tm_profile.specs.Texts.{IsEffect, IsNamespaceWord}
use Rattle.tm_profile.proofs.FitLaws.{line_fits}
use Rattle.tm_policy_line.specs.Reading.{name_rule, number_rule, acl_rule, begins_setting, begins_domain, setting_rule, delete_domain, delete_rule, domain_rule, manager_rule, manager_of, with_entry, read_words, read_line}
use Rattle.tm_except.specs.Written.{is_listed}
use Rattle.tm_policy_line.specs.Written.{is_literal_text, is_manager_text, is_domain_rule, is_manager_rule, is_written_rule, IsWrittenLine}
use Rattle.tm_word.proofs.WordLaws.{words_are}
use Rattle.tm_except.proofs.NamespaceWords.{namespace_word}

end_ok : {A : Type 0} (P : A → Type 0) (x : A) (words : List Text) → P x → OkIs P (ended x words)
end_ok P x [] h = h
end_ok P x (word ∷ words) h = tt

-- ---- domain lines

abbrev IsDomainRule : DomainRule → Type 0
IsDomainRule rule = is_domain_rule rule ≡ true

abbrev IsName : DomainName → Type 0
IsName name = is_domain_name is_path name ≡ true

name_ok : (words : List Text) → OkIs IsName (domain_to_end words)
name_ok words = each_ok IsName (domain_to_end words) (λ name e. to_end_right words name e)

name_rule_ok : (rule : DomainName → DomainRule) (words : List Text) → ((name : DomainName) → IsName name → IsDomainRule (rule name)) → OkIs IsDomainRule (name_rule rule words)
name_rule_ok rule words h = then_ok IsName IsDomainRule (domain_to_end words) _ (name_ok words) h

abbrev IsNumber : ℕ → Type 0
IsNumber n = nat_lt n 256 ≡ true

number_ok : (text : Text) → OkIs IsNumber (plain_word 256 text)
number_ok text = each_ok IsNumber (plain_word 256 text) (λ n e. lt-ltb n 256 (plain_read 256 text n e))

number_rule_ok : (rule : ℕ → DomainRule) (words : List Text) → ((n : ℕ) → IsNumber n → IsDomainRule (rule n)) → OkIs IsDomainRule (number_rule rule words)
number_rule_ok rule words h =
    then_ok (λ (x : ℕ × List Text). IsNumber x.0) IsDomainRule (word_at (plain_word 256) words) _ (word_ok IsNumber (plain_word 256) words number_ok) (λ n k. end_ok IsDomainRule (rule n.0) n.1 (h n.0 k))

abbrev IsEntry : Entry → Type 0
IsEntry entry = is_entry entry ≡ true

entry_ok : (words : List Text) → OkIs IsEntry (entry_of words)
entry_ok words = each_ok IsEntry (entry_of words) (λ entry e. entry_read words entry e)

acl_ok : (unfinished delete : Bool) (words : List Text) → OkIs IsDomainRule (acl_rule unfinished delete words)
unfolding is_domain_rule
acl_ok true delete words = tt
acl_ok false delete words = then_ok IsEntry IsDomainRule (entry_of words) _ (entry_ok words) (λ entry h. h)

setting_ok : (unfinished delete : Bool) (word : Text) (words : List Text) → OkIs IsDomainRule (setting_rule unfinished delete word words)
unfolding setting_rule is_domain_rule
setting_ok unfinished delete word words =
    if_ok IsDomainRule (texts_equal word (codes "use_group")) _ _ (number_rule_ok (DomainRule.UseGroup delete) words (λ n h. h))
    (if_ok IsDomainRule (texts_equal word (codes "quota_exceeded")) _ _ (end_ok IsDomainRule (DomainRule.QuotaExceeded delete) words refl)
    (if_ok IsDomainRule (texts_equal word (codes "transition_failed")) _ _ (end_ok IsDomainRule (DomainRule.TransitionFailed delete) words refl) (acl_ok (is_last words && unfinished) delete (word ∷ words))))

delete_ok : (name : DomainName) → IsName name → OkIs IsDomainRule (delete_domain name)
unfolding delete_domain is_domain_rule
delete_ok name h = by_kernel (texts_equal name kernel) refl
  where
    by_kernel : (t : Bool) → texts_equal name kernel ≡ t → OkIs IsDomainRule (if t then Err LineKind.KernelDomain else Ok (DomainRule.Delete name))
    by_kernel true e = tt
    by_kernel false e = all (is_domain_name is_path name) (not (texts_equal name kernel)) h (to_not (texts_equal name kernel) e)

delete_rule_ok : (words : List Text) → OkIs IsDomainRule (delete_rule words)
unfolding delete_rule
delete_rule_ok [] = tt
delete_rule_ok (word ∷ words) =
    if_ok IsDomainRule (opens word) _ _ (then_ok IsName IsDomainRule (domain_to_end (word ∷ words)) _ (name_ok (word ∷ words)) delete_ok) (setting_ok (begins_setting word) true word words)

domain_ok : (word : Text) (words : List Text) → OkIs IsDomainRule (domain_rule word words)
unfolding domain_rule is_domain_rule
domain_ok word words =
    if_ok IsDomainRule (opens word) _ _ (name_rule_ok DomainRule.Choose (word ∷ words) (λ name h. h))
    (if_ok IsDomainRule (texts_equal word (codes "select")) _ _ (name_rule_ok DomainRule.Select words (λ name h. h))
    (if_ok IsDomainRule (texts_equal word (codes "delete")) _ _ (delete_rule_ok words)
    (if_ok IsDomainRule (texts_equal word (codes "use_profile")) _ _ (number_rule_ok DomainRule.UseProfile words (λ n h. h)) (setting_ok (begins_domain word) false word words))))

-- ---- manager lines

abbrev IsManagerRule : ManagerRule → Type 0
IsManagerRule rule = is_manager_rule rule ≡ true

left_true : (a b : Bool) → a ≡ true → (a || b) ≡ true
left_true true b h = refl
left_true false b h = absurd cc

right_true : (a b : Bool) → b ≡ true → (a || b) ≡ true
right_true true b h = refl
right_true false b h = h

manager_name : (name : Text) → IsName name → IsManagerRule (ManagerRule.Name name)
unfolding is_manager_rule is_manager_text
manager_name name h = left_true (is_domain_name is_path name) (is_literal_text name) h

manager_path : (path : Text) → is_literal_text path ≡ true → IsManagerRule (ManagerRule.Name path)
unfolding is_manager_rule is_manager_text
manager_path path h = right_true (is_domain_name is_path path) (is_literal_text path) h

-- a literal path's text is one
literal_text : (text : Text) (o : Option Word) → spelled_word text ≡ o → begins_with_byte 47 text ≡ true → OkIs (λ (word : Word). is_literal_text text ≡ true) (or_kind LineKind.Name o)
literal_text text None e h = tt
literal_text text (Some word) e h = all (begins_with_byte 47 text) (is_some (spelled_word text)) h (ap is_some e)

literal_ok : (text : Text) → OkIs (λ (word : Word). is_literal_text text ≡ true) (literal_word text)
unfolding literal_word
literal_ok text = by_front (begins_with_byte 47 text) refl
  where
    by_front : (t : Bool) → begins_with_byte 47 text ≡ t → OkIs (λ (word : Word). is_literal_text text ≡ true) (if t then or_kind LineKind.Name (spelled_word text) else Err LineKind.Name)
    by_front true e = literal_text text (spelled_word text) refl e
    by_front false e = tt

manager_rule_ok : (first : Bool) (words : List Text) → OkIs IsManagerRule (manager_rule first words)
unfolding manager_rule is_manager_rule
manager_rule_ok first [] = tt
manager_rule_ok first (word ∷ words) =
    if_ok IsManagerRule (texts_equal word (codes "manage_by_non_root")) _ _ (end_ok IsManagerRule ManagerRule.ByNonRoot words refl)
    (if_ok IsManagerRule (opens word) _ _ (then_ok IsName IsManagerRule (domain_to_end (word ∷ words)) _ (name_ok (word ∷ words)) manager_name)
    (if_ok IsManagerRule (begins_with_byte 47 word) _ _
    (then_ok (λ (found : Word). is_literal_text word ≡ true) IsManagerRule (literal_word word) _ (literal_ok word) (λ found h. end_ok IsManagerRule (ManagerRule.Name word) words (manager_path word h)))
    tt))

manager_ok : (words : List Text) → OkIs (λ (found : Bool × ManagerRule). IsManagerRule found.1) (manager_of words)
unfolding manager_of
manager_ok words =
    let found : Bool × List Text = option_at (codes "delete") words in
    then_ok IsManagerRule (λ (x : Bool × ManagerRule). IsManagerRule x.1) (manager_rule (not found.0) found.1) _ (manager_rule_ok (not found.0) found.1) (λ rule h. h)

-- ---- exception lines

abbrev AreWords : List Text → Type 0
AreWords words = list_all is_word words ≡ true

-- ---- every line

rule_is : (rule : ExceptRule) → is_rule rule ≡ true → is_listed rule ≡ true → is_written_rule rule ≡ true
unfolding is_written_rule
rule_is rule h k = all (is_rule rule) (is_listed rule) h k

group_number : (n : ℕ) (words : List Text) → is_rule (ExceptRule.Acl n words) ≡ true → n < 256
unfolding is_rule
group_number n words h = ltb-true n 256 (both (nat_lt n 256) (is_line words) h).0

entry_line_ok : (line : ExceptLine) (rule : ExceptRule) → line.rule ≡ rule → IsNamespaceWord line.namespace → is_rule rule ≡ true → OkIs IsWrittenLine (with_entry line rule)
entry_line_ok line (ExceptRule.PathGroup name member) e h k = (h, subst (λ (r : ExceptRule). is_written_rule r ≡ true) (sym e) (rule_is _ k refl))
entry_line_ok line (ExceptRule.NumberGroup name member) e h k = (h, subst (λ (r : ExceptRule). is_written_rule r ≡ true) (sym e) (rule_is _ k refl))
entry_line_ok line (ExceptRule.AddressGroup name member) e h k = (h, subst (λ (r : ExceptRule). is_written_rule r ≡ true) (sym e) (rule_is _ k refl))
entry_line_ok line (ExceptRule.Aggregator one other) e h k = (h, subst (λ (r : ExceptRule). is_written_rule r ≡ true) (sym e) (rule_is _ k refl))
entry_line_ok line (ExceptRule.Control c) e h k = (h, subst (λ (r : ExceptRule). is_written_rule r ≡ true) (sym e) (rule_is _ k refl))
entry_line_ok line (ExceptRule.Acl n words) e h k = then_ok IsEntry IsWrittenLine (entry_of words) _ (entry_ok words) (λ entry m. (h, group_number n words k, m))

abbrev IsRight : ExceptLine → Type 0
IsRight line = IsNamespaceWord line.namespace × (is_rule line.rule ≡ true)

right_line : (words : List Text) (line : ExceptLine) → except_of words ≡ Ok line → IsRight line
right_line words line e = let found = line_found words line e in ((namespace_word line.namespace found.0, found.0), found.1)

exception_ok : (words : List Text) → OkIs IsRight (except_of words)
exception_ok words = each_ok IsRight (except_of words) (right_line words)

abbrev InNamespace : ProfileLine → Type 0
InNamespace line = IsNamespace line.namespace

profile_named : (words : List Text) → OkIs InNamespace (profile_of words)
unfolding profile_of
profile_named words =
    then_ok (λ (found : Text × List Text). IsNamespace found.0) InNamespace (namespace_at words) _ (each_ok (λ (found : Text × List Text). IsNamespace found.0) (namespace_at words) (λ found e. found_is words found.0 found.1 e))
    (λ found h. then_any InNamespace (effect_at found.1) _ (λ effect. h))

abbrev IsProfileLine : ProfileLine → Type 0
IsProfileLine line = IsNamespaceWord line.namespace × IsEffect line.effect

profile_right : (words : List Text) (line : ProfileLine) → AreWords words → profile_of words ≡ Ok line → IsProfileLine line
profile_right words line h e =
    let named = ok_of InNamespace (profile_of words) line (profile_named words) e in
    ((namespace_word line.namespace named, named), line_fits words line h e)

profile_ok : (words : List Text) → AreWords words → OkIs IsProfileLine (profile_of words)
profile_ok words h = each_ok IsProfileLine (profile_of words) (λ line e. profile_right words line h e)

line_ok : (file : FileKind) (words : List Text) → AreWords words → OkIs IsWrittenLine (read_words file words)
unfolding read_words
line_ok file [] h = tt
line_ok FileKind.Profile (word ∷ words) h = then_ok IsProfileLine IsWrittenLine (profile_of (word ∷ words)) _ (profile_ok (word ∷ words) h) (λ line k. k)
line_ok FileKind.Exception (word ∷ words) h =
    then_ok IsRight IsWrittenLine (except_of (word ∷ words)) _ (exception_ok (word ∷ words)) (λ line k. entry_line_ok line line.rule refl k.0 k.1)
line_ok FileKind.Domain (word ∷ words) h = then_ok IsDomainRule IsWrittenLine (domain_rule word words) _ (domain_ok word words) (λ rule k. k)
line_ok FileKind.Manager (word ∷ words) h = then_ok (λ (found : Bool × ManagerRule). IsManagerRule found.1) IsWrittenLine (manager_of (word ∷ words)) _ (manager_ok (word ∷ words)) (λ found k. k)

pub words_written : (file : FileKind) (words : List Text) (line : PolicyLine) → list_all is_word words ≡ true → read_words file words ≡ Ok line → IsWrittenLine line
words_written file words line h e = ok_of IsWrittenLine (read_words file words) line (line_ok file words h) e

pub read_written : (file : FileKind) (text : Text) (line : PolicyLine) → read_line file text ≡ Ok line → IsWrittenLine line
unfolding read_line
read_written file text line e = words_written file (words_of text) line (words_are text) e

-- ---- the domain name that a line chooses

chosen : (name : DomainName) → IsWrittenLine (PolicyLine.Domain (DomainRule.Choose name)) → is_domain_name is_path name ≡ true
unfolding is_domain_rule
chosen name h = h

pub chosen_right : (file : FileKind) (text : Text) (name : DomainName) → read_line file text ≡ Ok (PolicyLine.Domain (DomainRule.Choose name)) → is_domain_name is_path name ≡ true
chosen_right file text name e = chosen name (read_written file text (PolicyLine.Domain (DomainRule.Choose name)) e)
