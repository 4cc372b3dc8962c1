-- Each line that can be read keeps a policy written, and so does a Learn, a Make and a Fail.
use Rattle.std.proofs.Common.{◌≡◌, ℕ, ◌<◌, Bool, true, false, ◌&&◌, List, [], ◌∷◌, ◌++◌, refl, arith}
use Rattle.std.specs.Prelude.{Option, Some, None, if◌then◌else◌, not, is_some, option_map, filter}
use Rattle.std.specs.List.{AllByRecursion, IsDistinct, list_any}
use Rattle.std.specs.Option.{IfSome, option_and_then, option_map_or}
use Rattle.std.proofs.lemmas.Bool.{ltb-true}
use Rattle.tm_word.specs.Prelude.{Pattern, Text, Word, texts_equal}
use Rattle.tm_rules.specs.Prelude.{Cursor, DomainName, Edited, acl_group, adding, apply_read, at_key, changed_at, changing_namespace, choosing, chosen, dead, deleting, deleting_domain, domain_at, domain_line, edited, except_added, except_line, except_removed, except_there, fail, group_line, has_part, in_domain, is_domain_name, is_path_word, joining, learn, learn_reply, learned_domain, leaving, live_domain, live_part, made_new, make, making_domain, manager_line, namespace_named, namespace_word, new_domain, on_chosen, profile_line, profile_numbered, profile_of, put_key, refused, remove_key, selecting, with_domain, with_group}
use Rattle.tm_list.specs.Map.{Rises}
use Rattle.tm_list.proofs.MapLaws.{Rises-put, Rises-without}
use Rattle.tm_rules.specs.Types.{Domain, DomainRule, EditReply, Entry, ExceptRule, GroupLine, LearnReply, MakeReply, ManagerRule, Namespace, Policy, PolicyLine, Profile}
use Rattle.tm_rules.proofs.EqualityLaws.{both}
use Rattle.tm_domain.specs.Names.{is_path}
use Rattle.tm_entry.specs.Entries.{is_entry}
use Rattle.tm_except.specs.Written.{is_first, is_rule}
use Rattle.tm_profile.specs.Texts.{IsNamespaceWord}
use Rattle.tm_policy_line.specs.Written.{is_manager_text, is_domain_rule, is_manager_rule, is_written_rule, IsWrittenLine}
use Rattle.tm_policy_laws.specs.Policies.{aggregator_rule, IsWrittenHere, IsMember, IsWrittenDomain, IsWritten}
use Rattle.tm_policy_laws.proofs.ListLaws.{all_map, all_push, all_joining, all_filter, all_at, all_set, all_put, all_without, once_joining, once_leaving}
use Rattle.tm_policy_laws.proofs.EntryLists.{none_entries, are_adding, are_deleting}
use Rattle.tm_policy_laws.proofs.NamespaceLaws.{KeepsWritten, even_texts, profile_line-keeps, added-keeps, removed-keeps, group_added-keeps, group_deleted-keeps, changed_each, changed_once}

-- One part of a policy is another one

pub written_domains : (p : Policy) (domains : List Domain) → IsWritten p → AllByRecursion IsWrittenDomain domains → IsWritten (record p { domains = domains })
written_domains p domains h k = record { namespaces = h.namespaces; names = h.names; domains = k; managers = h.managers; managers_once = h.managers_once }

written_managers : (p : Policy) (managers : List Text) → IsWritten p → AllByRecursion (λ (name : Text). is_manager_text name ≡ true) managers → IsDistinct texts_equal managers → IsWritten (record p { managers = managers })
written_managers p managers h k once = record { namespaces = h.namespaces; names = h.names; domains = h.domains; managers = k; managers_once = once }

-- who else may edit, and whether it is opened, is no part of it
written_flag : (p : Policy) (flag : Bool) → IsWritten p → IsWritten (record p { by_non_root = flag })
written_flag p flag h = record { namespaces = h.namespaces; names = h.names; domains = h.domains; managers = h.managers; managers_once = h.managers_once }

pub written_opened : (p : Policy) (opened : Bool) → IsWritten p → IsWritten (record p { opened = opened })
written_opened p opened h = record { namespaces = h.namespaces; names = h.names; domains = h.domains; managers = h.managers; managers_once = h.managers_once }

namespace_written : (p : Policy) (name : Text) (change : Namespace → Namespace) → IsNamespaceWord name → KeepsWritten change → IsWritten p → IsWritten (changing_namespace p name change)
namespace_written p name change word keeps h = record {
  namespaces = changed_each change keeps name p.namespaces word h.namespaces;
  names = changed_once change keeps name p.namespaces h.names;
  domains = h.domains;
  managers = h.managers;
  managers_once = h.managers_once;
}

-- Domains

pub new_domain-written : (name : DomainName) (profile : ℕ) (groups : _) → is_domain_name is_path name ≡ true → profile < 256 → Rises (λ n. n) groups → AllByRecursion IsMember groups → IsWrittenDomain (new_domain name profile groups)
new_domain-written name profile groups right low rises all = record { name = right; profile = low; group_order = rises; groups = all; entries = none_entries }

-- a domain in the place of one that is there
set_written : (p : Policy) (d : ℕ) (x : Domain) → IsWritten p → IsWrittenDomain x → IsWritten (with_domain p d x)
set_written p d x h k = written_domains p (changed_at d (λ z. x) p.domains) h (all_set IsWrittenDomain (λ z. x) d p.domains (λ z was. k) h.domains)

pushed_written : (p : Policy) (x : Domain) → IsWritten p → IsWrittenDomain x → IsWritten (record p { domains = p.domains ++ x ∷ [] })
pushed_written p x h k = written_domains p (p.domains ++ x ∷ []) h (all_push IsWrittenDomain x p.domains k h.domains)

module _ (x : Domain) (h : IsWrittenDomain x) where
  with_profile : (n : ℕ) → n < 256 → IsWrittenDomain (record x { profile = n })
  with_profile n low = record { name = h.name; profile = low; group_order = h.group_order; groups = h.groups; entries = h.entries }

  with_member : (n : ℕ) → n < 256 → IsWrittenDomain (record x { groups = put_key n tt x.groups })
  with_member n low = record { name = h.name; profile = h.profile; group_order = Rises-put (λ (m : ℕ). m) n tt x.groups h.group_order; groups = all_put IsMember n tt x.groups low h.groups; entries = h.entries }

  without_member : (n : ℕ) → IsWrittenDomain (record x { groups = remove_key n x.groups })
  without_member n = record { name = h.name; profile = h.profile; group_order = Rises-without (λ (m : ℕ). m) n x.groups h.group_order; groups = all_without IsMember n x.groups h.groups; entries = h.entries }

  with_quota : (flag : Bool) → IsWrittenDomain (record x { quota_exceeded = flag })
  with_quota flag = record { name = h.name; profile = h.profile; group_order = h.group_order; groups = h.groups; entries = h.entries }

  with_failed : (flag : Bool) → IsWrittenDomain (record x { transition_failed = flag })
  with_failed flag = record { name = h.name; profile = h.profile; group_order = h.group_order; groups = h.groups; entries = h.entries }

  with_line : (line : Entry) → is_entry line ≡ true → IsWrittenDomain (record x { entries = adding line x.entries })
  with_line line fits = record { name = h.name; profile = h.profile; group_order = h.group_order; groups = h.groups; entries = are_adding line x.entries fits h.entries }

  without_line : (line : Entry) → IsWrittenDomain (record x { entries = deleting line x.entries })
  without_line line = record { name = h.name; profile = h.profile; group_order = h.group_order; groups = h.groups; entries = are_deleting line x.entries h.entries }

dead_written : (x : Domain) → IsWrittenDomain x → IsWrittenDomain (dead x)
dead_written x h = record { name = h.name; profile = h.profile; group_order = h.group_order; groups = h.groups; entries = h.entries }

-- the policy without its dead domains
pub live_written : (p : Policy) → IsWritten p → IsWritten (live_part p)
live_written p h = written_domains p (filter (λ (x : Domain). x.live) p.domains) h (all_filter IsWrittenDomain (λ (x : Domain). x.live) p.domains h.domains)

pub names_written : (p : Policy) → IsWritten p → AllByRecursion (λ (x : Domain). is_domain_name is_path x.name ≡ true) p.domains
names_written p h = all_map IsWrittenDomain (λ (x : Domain). is_domain_name is_path x.name ≡ true) (λ x k. k.name) p.domains h.domains

-- aggregators lead to paths
leads_to_path : (pair : Pattern × Word) → is_written_rule (aggregator_rule pair) ≡ true → is_path_word pair.1 ≡ true
unfolding is_written_rule is_rule
leads_to_path pair h = (both (is_first pair.0) (is_path_word pair.1) (both (is_first pair.0 && is_path_word pair.1) true h).0).1

pub aggregators_written : (p : Policy) → IsWritten p → AllByRecursion (λ (ns : Namespace). AllByRecursion (λ (pair : Pattern × Word). is_path_word pair.1 ≡ true) ns.aggregators) p.namespaces
aggregators_written p h =
    all_map IsWrittenHere (λ (ns : Namespace). AllByRecursion (λ (pair : Pattern × Word). is_path_word pair.1 ≡ true) ns.aggregators)
    (λ ns k. all_map (λ (pair : Pattern × Word). is_written_rule (aggregator_rule pair) ≡ true) (λ (pair : Pattern × Word). is_path_word pair.1 ≡ true) leads_to_path ns.aggregators k.aggregators.each)
    p.namespaces h.namespaces

-- Lines

abbrev Leaves : Edited → Type 0
Leaves done = IsWritten done.policy

by_test : (b : Bool) (one other : Edited) → Leaves one → Leaves other → Leaves (if b then one else other)
by_test true one other h k = h
by_test false one other h k = k

module _ (p : Policy) (cursor : Cursor) (h : IsWritten p) where
  except-written : (delete : Bool) (name : Text) (rule : ExceptRule) → IsNamespaceWord name → is_written_rule rule ≡ true → Leaves (except_line p cursor delete name rule)
  unfolding except_line
  except-written false name rule word fits = namespace_written p name (except_added rule) word (added-keeps rule fits) h
  except-written true name rule word fits = by_test (except_there rule (namespace_named p name)) _ _ (namespace_written p name (except_removed rule) word (removed-keeps rule) h) h

  group-written : (line : GroupLine) → IsNamespaceWord line.namespace → line.group < 256 → is_entry line.entry ≡ true → Leaves (group_line p cursor line)
  unfolding group_line
  group-written line word low fits =
      by_test line.delete _ _
      (by_test (has_part line.entry (acl_group (namespace_named p line.namespace) line.group)) _ _
      (namespace_written p line.namespace (λ ns. with_group line.group (deleting line.entry (acl_group ns line.group)) ns) word (group_deleted-keeps line.group line.entry low) h)
      h)
      (namespace_written p line.namespace (λ ns. with_group line.group (adding line.entry (acl_group ns line.group)) ns) word (group_added-keeps line.group line.entry low fits) h)

  -- a change of the chosen domain
  chosen-written : (change : ℕ → Domain → Edited) → ((d : ℕ) (x : Domain) → IsWrittenDomain x → Leaves (change d x)) → Leaves (on_chosen p cursor change)
  chosen-written change f = by_cursor cursor
    where
      by_live : (d : ℕ) (x : Domain) → domain_at p d ≡ Some x → (b : Bool) → Leaves (option_map_or (λ (pair : ℕ × Domain). change pair.0 pair.1) (if b then Some (d, x) else None) (refused p cursor EditReply.NoDomain))
      by_live d x at true = f d x (all_at IsWrittenDomain p.domains d x at h.domains)
      by_live d x at false = h

      by_domain : (d : ℕ) (o : Option Domain) → domain_at p d ≡ o → Leaves (option_map_or (λ (pair : ℕ × Domain). change pair.0 pair.1) (option_and_then (λ (domain : Domain). if domain.live then Some (d, domain) else None) o) (refused p cursor EditReply.NoDomain))
      by_domain d None at = h
      by_domain d (Some x) at = by_live d x at x.live

      by_cursor : (c : Cursor) → Leaves (option_map_or (λ (pair : ℕ × Domain). change pair.0 pair.1) (chosen p c) (refused p cursor EditReply.NoDomain))
      by_cursor None = h
      by_cursor (Some d) = by_domain d (domain_at p d) refl

  making-written : (name : DomainName) → is_domain_name is_path name ≡ true → Leaves (making_domain p cursor name)
  making-written name right =
      by_test (p.opened && not (is_some (profile_numbered p (namespace_word name) 0))) _ _ h (pushed_written p (new_domain name 0 []) h (new_domain-written name 0 [] right (omega arith) tt tt))

  choosing-written : (name : DomainName) → is_domain_name is_path name ≡ true → Leaves (choosing p cursor name)
  choosing-written name right = go (live_domain p name)
    where
      go : (o : Option ℕ) → Leaves (option_map_or (λ d. edited p (Some d)) o (making_domain p cursor name))
      go None = making-written name right
      go (Some d) = h

  selecting-written : (name : DomainName) → Leaves (selecting p name)
  selecting-written name = go (live_domain p name)
    where
      go : (o : Option ℕ) → Leaves (option_map_or (λ d. edited p (Some d)) o (refused p None EditReply.NoDomain))
      go None = h
      go (Some d) = h

  deleting-written : (name : DomainName) → Leaves (deleting_domain p cursor name)
  deleting-written name = go (live_domain p name)
    where
      go : (o : Option ℕ) → Leaves (option_map_or (λ d. edited (record p { domains = changed_at d dead p.domains }) None) o (refused p cursor EditReply.NoSuchLine))
      go None = h
      go (Some d) = written_domains p (changed_at d dead p.domains) h (all_set IsWrittenDomain dead d p.domains dead_written h.domains)

  domain-written : (rule : DomainRule) → is_domain_rule rule ≡ true → Leaves (domain_line p cursor rule)
  unfolding domain_line is_domain_rule
  domain-written (DomainRule.Choose name) right = choosing-written name right
  domain-written (DomainRule.Select name) right = selecting-written name
  domain-written (DomainRule.Delete name) right = deleting-written name
  domain-written (DomainRule.UseProfile n) right =
      chosen-written _ (λ d x k. by_test (is_some (profile_numbered p (namespace_word x.name) n)) _ _ (set_written p d (record x { profile = n }) h (with_profile x k n (ltb-true n 256 right))) h)
  domain-written (DomainRule.UseGroup false n) right = chosen-written _ (λ d x k. set_written p d (record x { groups = put_key n tt x.groups }) h (with_member x k n (ltb-true n 256 right)))
  domain-written (DomainRule.UseGroup true n) right = chosen-written _ (λ d x k. by_test (is_some (at_key x.groups n)) _ _ (set_written p d (record x { groups = remove_key n x.groups }) h (without_member x k n)) h)
  domain-written (DomainRule.QuotaExceeded false) right = chosen-written _ (λ d x k. set_written p d (record x { quota_exceeded = true }) h (with_quota x k true))
  domain-written (DomainRule.QuotaExceeded true) right = chosen-written _ (λ d x k. by_test x.quota_exceeded _ _ (set_written p d (record x { quota_exceeded = false }) h (with_quota x k false)) h)
  domain-written (DomainRule.TransitionFailed false) right = chosen-written _ (λ d x k. set_written p d (record x { transition_failed = true }) h (with_failed x k true))
  domain-written (DomainRule.TransitionFailed true) right = chosen-written _ (λ d x k. by_test x.transition_failed _ _ (set_written p d (record x { transition_failed = false }) h (with_failed x k false)) h)
  domain-written (DomainRule.Acl false line) right = chosen-written _ (λ d x k. set_written p d (record x { entries = adding line x.entries }) h (with_line x k line right))
  domain-written (DomainRule.Acl true line) right = chosen-written _ (λ d x k. by_test (has_part line x.entries) _ _ (set_written p d (record x { entries = deleting line x.entries }) h (without_line x k line)) h)

  manager-written : (delete : Bool) (rule : ManagerRule) → is_manager_rule rule ≡ true → Leaves (manager_line p cursor delete rule)
  unfolding manager_line is_manager_rule
  manager-written false ManagerRule.ByNonRoot right = written_flag p true h
  manager-written true ManagerRule.ByNonRoot right = by_test p.by_non_root _ _ (written_flag p false h) h
  manager-written false (ManagerRule.Name name) right =
      written_managers p (joining texts_equal name p.managers) h (all_joining (λ (m : Text). is_manager_text m ≡ true) texts_equal name p.managers right h.managers) (once_joining texts_equal name p.managers even_texts h.managers_once)
  manager-written true (ManagerRule.Name name) right =
      by_test (list_any (texts_equal name) p.managers) _ _
      (written_managers p (leaving texts_equal name p.managers) h (all_filter (λ (m : Text). is_manager_text m ≡ true) _ p.managers h.managers) (once_leaving texts_equal name p.managers h.managers_once))
      h

  -- whatever the line
  pub line_written : (line : PolicyLine) → IsWrittenLine line → Leaves (apply_read p cursor line)
  unfolding apply_read
  line_written PolicyLine.Nothing fits = h
  line_written (PolicyLine.Profile line) fits = namespace_written p line.namespace (profile_line line.effect) fits.0 (profile_line-keeps line.effect fits.1) h
  line_written (PolicyLine.Exception line) fits = except-written line.delete line.namespace line.rule fits.0 fits.1
  line_written (PolicyLine.Group line) fits = group-written line fits.0 fits.1 fits.2
  line_written (PolicyLine.Domain rule) fits = domain-written rule fits
  line_written (PolicyLine.Manager delete rule) fits = manager-written delete rule fits

-- Changes by takes

-- a change in a domain that is there
in_domain-written : {A : Type 0} (Q : A → Type 0) (p : Policy) (d : ℕ) (change : Domain → Profile → A) → IsWritten p → ((x : Domain) (profile : Profile) → IsWrittenDomain x → Q (change x profile)) → IfSome (in_domain p d change) Q
in_domain-written {A} Q p d change h f = by_domain (domain_at p d) refl
  where
    by_profile : (x : Domain) → IsWrittenDomain x → (o : Option Profile) → IfSome (option_map (change x) o) Q
    by_profile x k None = tt
    by_profile x k (Some profile) = f x profile k

    by_domain : (o : Option Domain) → domain_at p d ≡ o → IfSome (option_and_then (λ domain. option_map (change domain) (profile_of p domain)) o) Q
    by_domain None at = tt
    by_domain (Some x) at = by_profile x (all_at IsWrittenDomain p.domains d x at h.domains) (profile_of p x)

learned_written : (reply : LearnReply) (x : Domain) (entry : Entry) → is_entry entry ≡ true → IsWrittenDomain x → IsWrittenDomain (learned_domain reply x entry)
learned_written LearnReply.Added x entry fits k = with_line x k entry fits
learned_written LearnReply.There x entry fits k = k
learned_written LearnReply.Mode x entry fits k = k
learned_written LearnReply.Quota x entry fits k = with_quota x k true

pub learn_written : (p : Policy) (d : ℕ) (entry : Entry) → IsWritten p → is_entry entry ≡ true → IfSome (learn p d entry) (λ done. IsWritten done.0)
unfolding learn
learn_written p d entry h fits =
    in_domain-written (λ (done : Policy × LearnReply). IsWritten done.0) p d _ h
    (λ x profile k. set_written p d (learned_domain (learn_reply profile x entry) x entry) h (learned_written (learn_reply profile x entry) x entry fits k))

pub make_written : (p : Policy) (d : ℕ) (name : DomainName) → IsWritten p → is_domain_name is_path name ≡ true → IfSome (make p d name) (λ done. IsWritten done.0)
unfolding make
make_written p d name h right = in_domain-written (λ (done : Policy × MakeReply). IsWritten done.0) p d _ h (λ x profile k. go x k (live_domain p name))
  where
    go : (x : Domain) → IsWrittenDomain x → (o : Option ℕ) → IsWritten (option_map_or (λ n. (p, MakeReply.Old n)) o (made_new p name x)).0
    go x k None = pushed_written p (new_domain name x.profile x.groups) h (new_domain-written name x.profile x.groups right k.profile k.group_order k.groups)
    go x k (Some n) = h

pub fail_written : (p : Policy) (d : ℕ) → IsWritten p → IfSome (fail p d) (λ done. IsWritten done.0)
unfolding fail
fail_written p d h = in_domain-written (λ (done : Policy × Bool). IsWritten done.0) p d _ h (λ x profile k. set_written p d (record x { transition_failed = true }) h (with_failed x k true))
