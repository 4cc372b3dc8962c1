-- Whatever a line does, each domain stays with its name, and a profile that is defined stays so;
-- nothing is asked of the policy or of the grammar.
use Rattle.std.proofs.Common.{◌≡◌, ℕ, zero, suc, List, [], ◌∷◌, ◌++◌, Bool, true, false, refl, sym, subst}
use Rattle.std.specs.Prelude.{Option, Some, None, Ok, Err, Result, ◌&&◌, ◌==◌, cond, if◌then◌else◌, slice_get, unwrap_or, not, IsSome, is_some, nat_lt}
use Rattle.std.specs.List.{find, list_any}
use Rattle.std.specs.Option.{option_and_then, option_map_or}
use Rattle.std.proofs.lemmas.Bool.{eqb-true}
use Rattle.tm_word.specs.Prelude.{Text, texts_equal}
use Rattle.tm_rules.specs.Prelude.{Cursor, DomainName, Edited, Grammar, acl_group, adding, apply_line, apply_parsed, apply_read, at_key, changed_at, changed_domain, changing_namespace, choosing, dead, deleting, deleting_domain, domain_at, domain_line, edited, empty_namespace, except_added, except_line, except_removed, except_there, group_line, has_part, in_namespace, joining, leaving, live_domain, making_domain, manager_line, namespace_named, namespace_word, new_domain, new_profile, on_chosen, on_profile, profile_line, profile_numbered, put_key, refused, remove_key, removing, selecting, set_config, set_slot, with_group}
use Rattle.tm_rules.specs.Types.{Domain, DomainRule, EditReply, Entry, ExceptRule, FileKind, GroupLine, LineKind, ManagerRule, Namespace, Policy, PolicyLine, Profile, ProfileEffect}
use Rattle.tm_legal.proofs.Kept.{Keeps, Keeps-refl, Succeeds, succeeds, same_head, same_profile, live_is_there}

-- Domains

-- equal domains and namespaces
pub same-keeps : (p q : Policy) → q.namespaces ≡ p.namespaces → q.domains ≡ p.domains → Keeps p q
same-keeps p q n d = record { domains = λ e x at. (x, rw d at, refl, λ has. rw (same_profile p q x x n refl refl) has) }

module _ (p : Policy) (change : Domain → Domain) where
  get-changed : (xs : List Domain) (d e : ℕ) (old x : Domain) → slice_get xs d ≡ Some old → Succeeds p old (change old) → slice_get xs e ≡ Some x → (y : Domain) × (slice_get (changed_at d change xs) e ≡ Some y) × Succeeds p x y
  get-changed [] d e old x was same at = absurd cc
  get-changed (a ∷ xs) zero zero old x was same at =
      let first : a ≡ old = cc in
      let second : old ≡ x = cc in
      (change a, refl, subst (λ o. Succeeds p o (change a)) second (subst (λ z. Succeeds p old (change z)) (sym first) same))
  get-changed (a ∷ xs) zero (suc e) old x was same at = (x, at, same_head p x)
  get-changed (a ∷ xs) (suc d) zero old x was same at = (x, at, same_head p x)
  get-changed (a ∷ xs) (suc d) (suc e) old x was same at = get-changed xs d e old x was same at

  -- a domain that is changed and keeps its name and a defined profile
  pub changed-keeps : (d : ℕ) (old : Domain) → domain_at p d ≡ Some old → Succeeds p old (change old) → Keeps p (record p { domains = changed_at d change p.domains })
  changed-keeps d old was same =
      let q : Policy = record p { domains = changed_at d change p.domains } in
      record {
        domains = λ e x at.
            let found = get-changed p.domains d e old x was same at in
            (found.0, found.1, found.2.name, λ has. rw (same_profile p q found.0 found.0 refl refl refl) (found.2.profile has));
      }

get-front : (xs : List Domain) (new : Domain) (d : ℕ) (x : Domain) → slice_get xs d ≡ Some x → slice_get (xs ++ new ∷ []) d ≡ Some x
get-front [] new d x at = absurd cc
get-front (a ∷ xs) new zero x at = at
get-front (a ∷ xs) new (suc d) x at = get-front xs new d x at

-- a domain that is made last
pub made-keeps : (p : Policy) (new : Domain) → Keeps p (record p { domains = p.domains ++ new ∷ [] })
made-keeps p new =
    let q : Policy = record p { domains = p.domains ++ new ∷ [] } in
    record { domains = λ d x at. (x, get-front p.domains new d x at, refl, λ has. rw (same_profile p q x x refl refl refl) has) }

-- Namespaces

-- a key that is there stays there
put_key-some : {A : Type 0} (k key : ℕ) (v : A) (pairs : List (ℕ × A)) → IsSome (at_key pairs k) → IsSome (at_key (put_key key v pairs) k)
put_key-some k key v [] has = absurd cc
put_key-some {A} k key v (pair ∷ pairs) has = go (nat_lt pair.0 key) (pair.0 == key) refl (put_key-some k key v pairs)
  where
    front : (c : Bool) (o : Option A) → IsSome o → IsSome (if c then Some v else o)
    front true o had = refl
    front false o had = had

    later : (c : Bool) → IsSome (if c then Some pair.1 else at_key pairs k) → (IsSome (at_key pairs k) → IsSome (at_key (put_key key v pairs) k)) → IsSome (if c then Some pair.1 else at_key (put_key key v pairs) k)
    later true had ih = refl
    later false had ih = ih had

    here : (c : Bool) → (pair.0 == k) ≡ c → pair.0 ≡ key → IsSome (if c then Some pair.1 else at_key pairs k) → IsSome (at_key ((key, v) ∷ pairs) k)
    here true e same had = rw (← same) (rw e refl)
    here false e same had = front (key == k) (at_key pairs k) had

    go : (l : Bool) (b : Bool) → (pair.0 == key) ≡ b → (IsSome (at_key pairs k) → IsSome (at_key (put_key key v pairs) k)) → IsSome (at_key (if l then pair ∷ put_key key v pairs else (if b then (key, v) ∷ pairs else (key, v) ∷ pair ∷ pairs)) k)
    go true b e ih = later (pair.0 == k) has ih
    go false true e ih = here (pair.0 == k) refl (eqb-true pair.0 key e) has
    go false false e ih = front (key == k) (at_key (pair ∷ pairs) k) has

-- a change of a namespace that keeps its name, and its profiles defined
pub record Tame (change : Namespace → Namespace) : Type 0 where
  pub name : (ns : Namespace) → (change ns).name ≡ ns.name
  pub profiles : (ns : Namespace) (n : ℕ) → IsSome (at_key ns.profiles n) → IsSome (at_key (change ns).profiles n)

-- profile n of the namespace of that name
abbrev profile_in : List Namespace → Text → ℕ → Option Profile
profile_in list word n = at_key (unwrap_or (find (λ (ns : Namespace). texts_equal ns.name word) list) (empty_namespace word)).profiles n

profile_in-changed : (change : Namespace → Namespace) → Tame change → (name word : Text) (n : ℕ) (list : List Namespace) → IsSome (profile_in list word n) → IsSome (profile_in (in_namespace name change list) word n)
profile_in-changed change tame name word n [] has = absurd cc
profile_in-changed change tame name word n (ns ∷ rest) has = go (texts_equal ns.name name) (profile_in-changed change tame name word n rest)
  where
    here : (c : Bool) → IsSome (at_key (unwrap_or (cond c (Some ns) (find (λ (m : Namespace). texts_equal m.name word) rest)) (empty_namespace word)).profiles n) → IsSome (at_key (unwrap_or (cond c (Some (change ns)) (find (λ (m : Namespace). texts_equal m.name word) rest)) (empty_namespace word)).profiles n)
    here true had = tame.profiles ns n had
    here false had = had

    later : (c : Bool) → IsSome (at_key (unwrap_or (cond c (Some ns) (find (λ (m : Namespace). texts_equal m.name word) rest)) (empty_namespace word)).profiles n) → (IsSome (profile_in rest word n) → IsSome (profile_in (in_namespace name change rest) word n)) → IsSome (at_key (unwrap_or (cond c (Some ns) (find (λ (m : Namespace). texts_equal m.name word) (in_namespace name change rest))) (empty_namespace word)).profiles n)
    later true had ih = had
    later false had ih = ih had

    go : (b : Bool) → (IsSome (profile_in rest word n) → IsSome (profile_in (in_namespace name change rest) word n)) → IsSome (profile_in (if b then change ns ∷ rest else ns ∷ in_namespace name change rest) word n)
    go true ih =
        here (texts_equal (change ns).name word)
        (subst (λ (m : Text). IsSome (at_key (unwrap_or (cond (texts_equal m word) (Some ns) (find (λ (o : Namespace). texts_equal o.name word) rest)) (empty_namespace word)).profiles n)) (sym (tame.name ns)) has)
    go false ih = later (texts_equal ns.name word) has ih

namespace-keeps : (p : Policy) (name : Text) (change : Namespace → Namespace) → Tame change → Keeps p (changing_namespace p name change)
unfolding namespace_named
namespace-keeps p name change tame = record { domains = λ d x at. (x, at, refl, λ has. profile_in-changed change tame name (namespace_word x.name) x.profile p.namespaces has) }

-- Profile and exception lines

on_profile-tame : (n : ℕ) (change : Profile → Profile) → Tame (on_profile n change)
on_profile-tame n change = record { name = λ ns. refl; profiles = λ ns k has. put_key-some k n (change (unwrap_or (at_key ns.profiles n) new_profile)) ns.profiles has }

profile_line-tame : (effect : ProfileEffect) → Tame (profile_line effect)
unfolding profile_line
profile_line-tame ProfileEffect.Version = record { name = λ ns. refl; profiles = λ ns n has. has }
profile_line-tame (ProfileEffect.Comment n text) = on_profile-tame n (λ p. record p { comment = text })
profile_line-tame (ProfileEffect.Preference n audit learning) = on_profile-tame n (λ p. record p { max_audit_log = unwrap_or audit p.max_audit_log; max_learning_entry = unwrap_or learning p.max_learning_entry })
profile_line-tame (ProfileEffect.Config n setting) = on_profile-tame n (λ p. record p { config = set_config setting p.config.logs })
profile_line-tame (ProfileEffect.Slot n name setting) = on_profile-tame n (set_slot name setting)

added-tame : (rule : ExceptRule) → Tame (except_added rule)
unfolding except_added
added-tame (ExceptRule.PathGroup name member) = record { name = λ ns. refl; profiles = λ ns n has. has }
added-tame (ExceptRule.NumberGroup name member) = record { name = λ ns. refl; profiles = λ ns n has. has }
added-tame (ExceptRule.AddressGroup name member) = record { name = λ ns. refl; profiles = λ ns n has. has }
added-tame (ExceptRule.Aggregator first second) = record { name = λ ns. refl; profiles = λ ns n has. has }
added-tame (ExceptRule.Control control) = record { name = λ ns. refl; profiles = λ ns n has. has }
added-tame (ExceptRule.Acl n words) = record { name = λ ns. refl; profiles = λ ns n has. has }

removed-tame : (rule : ExceptRule) → Tame (except_removed rule)
unfolding except_removed
removed-tame (ExceptRule.PathGroup name member) = record { name = λ ns. refl; profiles = λ ns n has. has }
removed-tame (ExceptRule.NumberGroup name member) = record { name = λ ns. refl; profiles = λ ns n has. has }
removed-tame (ExceptRule.AddressGroup name member) = record { name = λ ns. refl; profiles = λ ns n has. has }
removed-tame (ExceptRule.Aggregator first second) = record { name = λ ns. refl; profiles = λ ns n has. has }
removed-tame (ExceptRule.Control control) = record { name = λ ns. refl; profiles = λ ns n has. has }
removed-tame (ExceptRule.Acl n words) = record { name = λ ns. refl; profiles = λ ns n has. has }

-- an edit that was done or refused
abbrev Keeps_by : Policy → Edited → Type 0
Keeps_by p done = Keeps p done.policy

by_test : (p : Policy) (b : Bool) (one other : Edited) → Keeps_by p one → Keeps_by p other → Keeps_by p (if b then one else other)
by_test p true one other h k = h
by_test p false one other h k = k

except-keeps : (p : Policy) (cursor : Cursor) (delete : Bool) (name : Text) (rule : ExceptRule) → Keeps_by p (except_line p cursor delete name rule)
unfolding except_line
except-keeps p cursor false name rule = namespace-keeps p name (except_added rule) (added-tame rule)
except-keeps p cursor true name rule = by_test p (except_there rule (namespace_named p name)) _ _ (namespace-keeps p name (except_removed rule) (removed-tame rule)) (Keeps-refl p)

with_group-tame : (n : ℕ) (entries : Namespace → List Entry) → Tame (λ ns. with_group n (entries ns) ns)
with_group-tame n entries = record { name = λ ns. refl; profiles = λ ns k has. has }

group-keeps : (p : Policy) (cursor : Cursor) (line : GroupLine) → Keeps_by p (group_line p cursor line)
unfolding group_line
group-keeps p cursor line =
    by_test p line.delete _ _
    (by_test p (has_part line.entry (acl_group (namespace_named p line.namespace) line.group)) _ _
    (namespace-keeps p line.namespace (λ ns. with_group line.group (deleting line.entry (acl_group ns line.group)) ns) (with_group-tame line.group (λ ns. deleting line.entry (acl_group ns line.group))))
    (Keeps-refl p))
    (namespace-keeps p line.namespace (λ ns. with_group line.group (adding line.entry (acl_group ns line.group)) ns) (with_group-tame line.group (λ ns. adding line.entry (acl_group ns line.group))))

-- Domain and manager lines

-- a change of a domain that is there
abbrev Changes_well : Policy → (ℕ → Domain → Edited) → Type 0
Changes_well p change = (d : ℕ) (x : Domain) → domain_at p d ≡ Some x → Keeps_by p (change d x)

chosen-keeps : (p : Policy) (cursor : Cursor) (change : ℕ → Domain → Edited) → Changes_well p change → Keeps_by p (on_chosen p cursor change)
chosen-keeps p None change h = Keeps-refl p
chosen-keeps p (Some d) change h = by_domain (domain_at p d) refl
  where
    by_live : (x : Domain) → domain_at p d ≡ Some x → (b : Bool) → Keeps_by p (option_map_or (λ (pair : ℕ × Domain). change pair.0 pair.1) (if b then Some (d, x) else None) (refused p (Some d) EditReply.NoDomain))
    by_live x at true = h d x at
    by_live x at false = Keeps-refl p

    by_domain : (o : Option Domain) → domain_at p d ≡ o → Keeps_by p (option_map_or (λ (pair : ℕ × Domain). change pair.0 pair.1) (option_and_then (λ (domain : Domain). if domain.live then Some (d, domain) else None) o) (refused p (Some d) EditReply.NoDomain))
    by_domain None at = Keeps-refl p
    by_domain (Some x) at = by_live x at x.live

module _ (p : Policy) (cursor : Cursor) where
  -- name, profile and life of the chosen domain stay
  head-keeps : (new : Domain → Domain) → ((x : Domain) → (new x).name ≡ x.name) → ((x : Domain) → (new x).profile ≡ x.profile) → ((x : Domain) → (new x).live ≡ x.live) → Changes_well p (λ d x. changed_domain p cursor d (new x))
  head-keeps new name profile live d x at = changed-keeps p (λ z. new x) d x at (succeeds p x (new x) (name x) (profile x) (live x))

  removing-keeps : (there : Domain → Bool) (new : Domain → Domain) → ((x : Domain) → (new x).name ≡ x.name) → ((x : Domain) → (new x).profile ≡ x.profile) → ((x : Domain) → (new x).live ≡ x.live) → Changes_well p (λ d x. removing p cursor (there x) (changed_domain p cursor d (new x)))
  removing-keeps there new name profile live d x at = by_test p (there x) _ _ (head-keeps new name profile live d x at) (Keeps-refl p)

  profile-keeps : (n : ℕ) → Changes_well p (λ d x. if is_some (profile_numbered p (namespace_word x.name) n) then changed_domain p cursor d (record x { profile = n }) else refused p cursor EditReply.NoProfile)
  profile-keeps n d x at = go (is_some (profile_numbered p (namespace_word x.name) n)) refl
    where
      go : (b : Bool) → is_some (profile_numbered p (namespace_word x.name) n) ≡ b → Keeps_by p (if b then changed_domain p cursor d (record x { profile = n }) else refused p cursor EditReply.NoProfile)
      go true e = changed-keeps p (λ z. record x { profile = n }) d x at (record { name = refl; profile = λ has. e; live = λ live. live })
      go false e = Keeps-refl p

  choosing-keeps : (name : DomainName) → Keeps_by p (choosing p cursor name)
  choosing-keeps name = go (live_domain p name)
    where
      go : (o : Option ℕ) → Keeps_by p (option_map_or (λ d. edited p (Some d)) o (making_domain p cursor name))
      go None = by_test p (p.opened && not (is_some (profile_numbered p (namespace_word name) 0))) _ _ (Keeps-refl p) (made-keeps p (new_domain name 0 []))
      go (Some d) = Keeps-refl p

  selecting-keeps : (name : DomainName) → Keeps_by p (selecting p name)
  selecting-keeps name = go (live_domain p name)
    where
      go : (o : Option ℕ) → Keeps_by p (option_map_or (λ d. edited p (Some d)) o (refused p None EditReply.NoDomain))
      go None = Keeps-refl p
      go (Some d) = Keeps-refl p

  deleting-keeps : (name : DomainName) → Keeps_by p (deleting_domain p cursor name)
  deleting-keeps name = go (live_domain p name) refl
    where
      go : (o : Option ℕ) → live_domain p name ≡ o → Keeps_by p (option_map_or (λ d. edited (record p { domains = changed_at d dead p.domains }) None) o (refused p cursor EditReply.NoSuchLine))
      go None e = Keeps-refl p
      go (Some d) e =
          let (x, at, live) = live_is_there p name d e in
          changed-keeps p dead d x at (record { name = refl; profile = λ has. rw (same_profile p p x (dead x) refl refl refl) has; live = λ alive. live })

  domain-keeps : (rule : DomainRule) → Keeps_by p (domain_line p cursor rule)
  unfolding domain_line
  domain-keeps (DomainRule.Choose name) = choosing-keeps name
  domain-keeps (DomainRule.Select name) = selecting-keeps name
  domain-keeps (DomainRule.Delete name) = deleting-keeps name
  domain-keeps (DomainRule.UseProfile n) = chosen-keeps p cursor _ (profile-keeps n)
  domain-keeps (DomainRule.UseGroup false n) = chosen-keeps p cursor _ (head-keeps (λ x. record x { groups = put_key n tt x.groups }) (λ x. refl) (λ x. refl) (λ x. refl))
  domain-keeps (DomainRule.UseGroup true n) = chosen-keeps p cursor _ (removing-keeps (λ x. is_some (at_key x.groups n)) (λ x. record x { groups = remove_key n x.groups }) (λ x. refl) (λ x. refl) (λ x. refl))
  domain-keeps (DomainRule.QuotaExceeded false) = chosen-keeps p cursor _ (head-keeps (λ x. record x { quota_exceeded = true }) (λ x. refl) (λ x. refl) (λ x. refl))
  domain-keeps (DomainRule.QuotaExceeded true) = chosen-keeps p cursor _ (removing-keeps (λ x. x.quota_exceeded) (λ x. record x { quota_exceeded = false }) (λ x. refl) (λ x. refl) (λ x. refl))
  domain-keeps (DomainRule.TransitionFailed false) = chosen-keeps p cursor _ (head-keeps (λ x. record x { transition_failed = true }) (λ x. refl) (λ x. refl) (λ x. refl))
  domain-keeps (DomainRule.TransitionFailed true) = chosen-keeps p cursor _ (removing-keeps (λ x. x.transition_failed) (λ x. record x { transition_failed = false }) (λ x. refl) (λ x. refl) (λ x. refl))
  domain-keeps (DomainRule.Acl false entry) = chosen-keeps p cursor _ (head-keeps (λ x. record x { entries = adding entry x.entries }) (λ x. refl) (λ x. refl) (λ x. refl))
  domain-keeps (DomainRule.Acl true entry) = chosen-keeps p cursor _ (removing-keeps (λ x. has_part entry x.entries) (λ x. record x { entries = deleting entry x.entries }) (λ x. refl) (λ x. refl) (λ x. refl))

  manager-keeps : (delete : Bool) (rule : ManagerRule) → Keeps_by p (manager_line p cursor delete rule)
  unfolding manager_line
  manager-keeps false ManagerRule.ByNonRoot = same-keeps p (record p { by_non_root = true }) refl refl
  manager-keeps true ManagerRule.ByNonRoot = by_test p p.by_non_root _ _ (same-keeps p (record p { by_non_root = false }) refl refl) (Keeps-refl p)
  manager-keeps false (ManagerRule.Name name) = same-keeps p (record p { managers = joining texts_equal name p.managers }) refl refl
  manager-keeps true (ManagerRule.Name name) = by_test p (list_any (texts_equal name) p.managers) _ _ (same-keeps p (record p { managers = leaving texts_equal name p.managers }) refl refl) (Keeps-refl p)

-- One line

pub line-keeps : (g : Grammar) (p : Policy) (file : FileKind) (cursor : Cursor) (line : Text) → Keeps p (apply_line g p file cursor line).policy
unfolding apply_line apply_read
line-keeps g p file cursor line = go (g.read_line file line)
  where
    go : (r : Result PolicyLine LineKind) → Keeps p (apply_parsed p cursor r).policy
    go (Err kind) = Keeps-refl p
    go (Ok PolicyLine.Nothing) = Keeps-refl p
    go (Ok (PolicyLine.Profile effect)) = namespace-keeps p effect.namespace (profile_line effect.effect) (profile_line-tame effect.effect)
    go (Ok (PolicyLine.Exception rule)) = except-keeps p cursor rule.delete rule.namespace rule.rule
    go (Ok (PolicyLine.Group line)) = group-keeps p cursor line
    go (Ok (PolicyLine.Domain rule)) = domain-keeps p cursor rule
    go (Ok (PolicyLine.Manager delete rule)) = manager-keeps p cursor delete rule
