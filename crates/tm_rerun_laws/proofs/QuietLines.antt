-- A quiet policy line lets a policy grow, and a refused line changes nothing.
use Rattle.std.proofs.Common.{◌≡◌, ◌<◌, ℕ, List, [], ◌∷◌, length, Bool, true, false, true≢false, refl, sym, ap, ◌∙◌, subst, arith}
use Rattle.std.specs.Prelude.{Option, Some, None, Ok, Err, Result, ◌&&◌, ◌==◌, cond, if◌then◌else◌, unwrap_or, not, is_some, nat_lt, bit_or}
use Rattle.std.specs.List.{find, list_any}
use Rattle.std.specs.Option.{option_and_then, option_map_or}
use Rattle.std.proofs.lemmas.Bool.{eqb-true, ltb-true, and_parts}
use Rattle.tm_word.specs.Prelude.{Text, texts_equal}
use Rattle.tm_rules.specs.Prelude.{Cursor, Edited, Grammar, IsGrammar, acl_group, adding, apply_line, apply_parsed, apply_read, at_key, changed_domain, changing_namespace, chosen, deleting, domain_at, domain_line, edited, empty_namespace, except_line, except_there, group_line, has_part, in_namespace, is_done, is_quiet, is_quiet_rule, leaving, lets_execute, live_domain, making_domain, manager_line, namespace_named, namespace_word, on_chosen, profile_numbered, put_group, put_key, refused, remove_key, removing, same_line, with_domain, with_group}
use Rattle.tm_rules.specs.Types.{Domain, DomainRule, EditReply, Entry, ExceptRule, FileKind, GroupLine, LineKind, ManagerRule, Namespace, Policy, PolicyLine}
use Rattle.tm_legal.specs.Prelude.{EntriesGrow, Grows, NamespaceGrows}
use Rattle.tm_legal.proofs.Kept.{same_texts}
use Rattle.tm_legal.proofs.Growth.{EntriesGrow-refl, EntriesGrow-adding, DomainGrows-refl, NamespaceGrows-refl, with_domain-grows, QuietLinesGrow}

-- A refused line changes nothing

-- a line that isn't done leaves the policy
pub record Refuses (p : Policy) (done : Edited) : Type 0 where
  pub same : is_done done.reply ≡ false → done.policy ≡ p

module _ (p : Policy) where
  done-refuses : (q : Policy) (cursor : Cursor) → Refuses p (edited q cursor)
  done-refuses q cursor = record { same = λ e. absurd (true≢false e) }

  stays : (cursor : Cursor) (reply : EditReply) → Refuses p (refused p cursor reply)
  stays cursor reply = record { same = λ e. refl }

  test-refuses : (b : Bool) (one other : Edited) → Refuses p one → Refuses p other → Refuses p (if b then one else other)
  test-refuses true one other h k = h
  test-refuses false one other h k = k

  option-refuses : {A : Type 0} (f : A → Edited) (o : Option A) (none : Edited) → ((x : A) → Refuses p (f x)) → Refuses p none → Refuses p (option_map_or f o none)
  option-refuses f None none h k = k
  option-refuses f (Some x) none h k = h x

  -- a line that is done where a test passes, and refused otherwise
  tested : (b : Bool) (q : Policy) (after before : Cursor) (reply : EditReply) → Refuses p (if b then edited q after else refused p before reply)
  tested b q after before reply = test-refuses b (edited q after) (refused p before reply) (done-refuses q after) (stays before reply)

  chosen-refuses : (cursor : Cursor) (change : ℕ → Domain → Edited) → ((d : ℕ) (x : Domain) → Refuses p (change d x)) → Refuses p (on_chosen p cursor change)
  chosen-refuses cursor change h = option-refuses (λ (pair : ℕ × Domain). change pair.0 pair.1) _ _ (λ pair. h pair.0 pair.1) (stays cursor EditReply.NoDomain)

  -- something is taken out of the chosen domain, where it is there
  removing-refuses : (cursor : Cursor) (there : Domain → Bool) (new : Domain → Domain) → Refuses p (on_chosen p cursor (λ d x. removing p cursor (there x) (changed_domain p cursor d (new x))))
  removing-refuses cursor there new = chosen-refuses cursor (λ d x. removing p cursor (there x) (changed_domain p cursor d (new x))) (λ d x. tested (there x) (with_domain p d (new x)) cursor cursor EditReply.NoSuchLine)

  changing-refuses : (cursor : Cursor) (new : Domain → Domain) → Refuses p (on_chosen p cursor (λ d x. changed_domain p cursor d (new x)))
  changing-refuses cursor new = chosen-refuses cursor (λ d x. changed_domain p cursor d (new x)) (λ d x. done-refuses (with_domain p d (new x)) cursor)

  domain-refuses : (cursor : Cursor) (rule : DomainRule) → Refuses p (domain_line p cursor rule)
  unfolding domain_line
  domain-refuses cursor (DomainRule.Choose name) =
      option-refuses (λ d. edited p (Some d)) (live_domain p name) (making_domain p cursor name) (λ d. done-refuses p (Some d))
      (test-refuses (p.opened && not (is_some (profile_numbered p (namespace_word name) 0))) _ _ (stays cursor EditReply.NoProfile) (done-refuses _ (Some (length p.domains))))
  domain-refuses cursor (DomainRule.Select name) = option-refuses (λ d. edited p (Some d)) (live_domain p name) (refused p None EditReply.NoDomain) (λ d. done-refuses p (Some d)) (stays None EditReply.NoDomain)
  domain-refuses cursor (DomainRule.Delete name) = option-refuses _ (live_domain p name) (refused p cursor EditReply.NoSuchLine) (λ d. done-refuses _ None) (stays cursor EditReply.NoSuchLine)
  domain-refuses cursor (DomainRule.UseProfile n) =
      chosen-refuses cursor (λ d x. if is_some (profile_numbered p (namespace_word x.name) n) then changed_domain p cursor d (record x { profile = n }) else refused p cursor EditReply.NoProfile)
      (λ d x. tested (is_some (profile_numbered p (namespace_word x.name) n)) (with_domain p d (record x { profile = n })) cursor cursor EditReply.NoProfile)
  domain-refuses cursor (DomainRule.UseGroup false n) = changing-refuses cursor (λ x. record x { groups = put_key n tt x.groups })
  domain-refuses cursor (DomainRule.UseGroup true n) = removing-refuses cursor (λ x. is_some (at_key x.groups n)) (λ x. record x { groups = remove_key n x.groups })
  domain-refuses cursor (DomainRule.QuotaExceeded false) = changing-refuses cursor (λ x. record x { quota_exceeded = true })
  domain-refuses cursor (DomainRule.QuotaExceeded true) = removing-refuses cursor (λ x. x.quota_exceeded) (λ x. record x { quota_exceeded = false })
  domain-refuses cursor (DomainRule.TransitionFailed false) = changing-refuses cursor (λ x. record x { transition_failed = true })
  domain-refuses cursor (DomainRule.TransitionFailed true) = removing-refuses cursor (λ x. x.transition_failed) (λ x. record x { transition_failed = false })
  domain-refuses cursor (DomainRule.Acl false entry) = changing-refuses cursor (λ x. record x { entries = adding entry x.entries })
  domain-refuses cursor (DomainRule.Acl true entry) = removing-refuses cursor (λ x. has_part entry x.entries) (λ x. record x { entries = deleting entry x.entries })

  except-refuses : (cursor : Cursor) (delete : Bool) (name : Text) (rule : ExceptRule) → Refuses p (except_line p cursor delete name rule)
  unfolding except_line
  except-refuses cursor false name rule = done-refuses _ cursor
  except-refuses cursor true name rule = tested (except_there rule (namespace_named p name)) _ cursor cursor EditReply.NoSuchLine

  group-refuses : (cursor : Cursor) (line : GroupLine) → Refuses p (group_line p cursor line)
  unfolding group_line
  group-refuses cursor line =
      test-refuses line.delete _ _ (tested (has_part line.entry (acl_group (namespace_named p line.namespace) line.group)) _ cursor cursor EditReply.NoSuchLine) (done-refuses _ cursor)

  manager-refuses : (cursor : Cursor) (delete : Bool) (rule : ManagerRule) → Refuses p (manager_line p cursor delete rule)
  unfolding manager_line
  manager-refuses cursor false ManagerRule.ByNonRoot = done-refuses _ cursor
  manager-refuses cursor true ManagerRule.ByNonRoot = tested p.by_non_root _ cursor cursor EditReply.NoSuchLine
  manager-refuses cursor false (ManagerRule.Name name) = done-refuses _ cursor
  manager-refuses cursor true (ManagerRule.Name name) = tested (list_any (texts_equal name) p.managers) _ cursor cursor EditReply.NoSuchLine

-- a line of any file
pub line-refuses : (g : Grammar) (p : Policy) (file : FileKind) (cursor : Cursor) (line : Text) → Refuses p (apply_line g p file cursor line)
unfolding apply_line apply_read
line-refuses g p file cursor line = go (g.read_line file line)
  where
    go : (r : Result PolicyLine LineKind) → Refuses p (apply_parsed p cursor r)
    go (Err kind) = stays p cursor (EditReply.BadLine kind)
    go (Ok PolicyLine.Nothing) = done-refuses p p cursor
    go (Ok (PolicyLine.Profile effect)) = done-refuses p _ cursor
    go (Ok (PolicyLine.Exception rule)) = except-refuses p cursor rule.delete rule.namespace rule.rule
    go (Ok (PolicyLine.Group line)) = group-refuses p cursor line
    go (Ok (PolicyLine.Domain rule)) = domain-refuses p cursor rule
    go (Ok (PolicyLine.Manager delete rule)) = manager-refuses p cursor delete rule

-- What a quiet line changes: no domain and no namespace, or it adds a line without execute to a
-- domain or to an ACL group
pub data Quietly (p q : Policy) : Type 0 where
  Others : (domains : q.domains ≡ p.domains) → (namespaces : q.namespaces ≡ p.namespaces) → Quietly p q
  Own : (d : ℕ) → (x : Domain) → (entry : Entry) → (there : domain_at p d ≡ Some x) → (quiet : lets_execute entry ≡ false) → (is : q ≡ with_domain p d (record x { entries = adding entry x.entries })) → Quietly p q
  Acl : (line : GroupLine) → (quiet : lets_execute line.entry ≡ false) → (is : q ≡ changing_namespace p line.namespace (λ ns. with_group line.group (adding line.entry (acl_group ns line.group)) ns)) → Quietly p q

not-false : (b : Bool) → not b ≡ true → b ≡ false
not-false true e = absurd (true≢false (sym e))
not-false false e = refl

module _ (p : Policy) (cursor : Cursor) where
  select-quietly : (o : Option ℕ) → Quietly p (option_map_or (λ d. edited p (Some d)) o (refused p None EditReply.NoDomain)).policy
  select-quietly None = Quietly.Others refl refl
  select-quietly (Some d) = Quietly.Others refl refl

  acl-quietly : (entry : Entry) → lets_execute entry ≡ false → Quietly p (on_chosen p cursor (λ d x. changed_domain p cursor d (record x { entries = adding entry x.entries }))).policy
  acl-quietly entry quiet = by_cursor cursor
    where
      by_live : (d : ℕ) (x : Domain) → domain_at p d ≡ Some x → (b : Bool) → Quietly p (option_map_or (λ (pair : ℕ × Domain). changed_domain p cursor pair.0 (record (pair.1) { entries = adding entry pair.1.entries })) (if b then Some (d, x) else None) (refused p cursor EditReply.NoDomain)).policy
      by_live d x at true = Quietly.Own d x entry at quiet refl
      by_live d x at false = Quietly.Others refl refl

      by_domain : (d : ℕ) (o : Option Domain) → domain_at p d ≡ o → Quietly p (option_map_or (λ (pair : ℕ × Domain). changed_domain p cursor pair.0 (record (pair.1) { entries = adding entry pair.1.entries })) (option_and_then (λ (domain : Domain). if domain.live then Some (d, domain) else None) o) (refused p cursor EditReply.NoDomain)).policy
      by_domain d None at = Quietly.Others refl refl
      by_domain d (Some x) at = by_live d x at x.live

      by_cursor : (c : Cursor) → Quietly p (option_map_or (λ (pair : ℕ × Domain). changed_domain p cursor pair.0 (record (pair.1) { entries = adding entry pair.1.entries })) (chosen p c) (refused p cursor EditReply.NoDomain)).policy
      by_cursor None = Quietly.Others refl refl
      by_cursor (Some d) = by_domain d (domain_at p d) refl

  group-quietly : (line : GroupLine) → line.delete ≡ false → lets_execute line.entry ≡ false → Quietly p (group_line p cursor line).policy
  unfolding group_line
  group-quietly line adds quiet = Quietly.Acl line quiet (rw adds refl)

  manager-quietly : (delete : Bool) (rule : ManagerRule) → Quietly p (manager_line p cursor delete rule).policy
  unfolding manager_line
  manager-quietly false ManagerRule.ByNonRoot = Quietly.Others refl refl
  manager-quietly true ManagerRule.ByNonRoot = go p.by_non_root
    where
      go : (b : Bool) → Quietly p (if b then edited (record p { by_non_root = false }) cursor else refused p cursor EditReply.NoSuchLine).policy
      go true = Quietly.Others refl refl
      go false = Quietly.Others refl refl
  manager-quietly false (ManagerRule.Name name) = Quietly.Others refl refl
  manager-quietly true (ManagerRule.Name name) = go (list_any (texts_equal name) p.managers)
    where
      go : (b : Bool) → Quietly p (if b then edited (record p { managers = leaving texts_equal name p.managers }) cursor else refused p cursor EditReply.NoSuchLine).policy
      go true = Quietly.Others refl refl
      go false = Quietly.Others refl refl

  domain-quietly : (rule : DomainRule) → is_quiet_rule (PolicyLine.Domain rule) ≡ true → Quietly p (domain_line p cursor rule).policy
  unfolding domain_line
  domain-quietly (DomainRule.Choose name) e = absurd (true≢false (sym e))
  domain-quietly (DomainRule.Select name) e = select-quietly (live_domain p name)
  domain-quietly (DomainRule.Delete name) e = absurd (true≢false (sym e))
  domain-quietly (DomainRule.UseProfile n) e = absurd (true≢false (sym e))
  domain-quietly (DomainRule.UseGroup b n) e = absurd (true≢false (sym e))
  domain-quietly (DomainRule.QuotaExceeded b) e = absurd (true≢false (sym e))
  domain-quietly (DomainRule.TransitionFailed b) e = absurd (true≢false (sym e))
  domain-quietly (DomainRule.Acl false entry) e = acl-quietly entry (not-false (lets_execute entry) e)
  domain-quietly (DomainRule.Acl true entry) e = absurd (true≢false (sym e))

pub line-quietly : (g : Grammar) (p : Policy) (file : FileKind) (cursor : Cursor) (line : Text) → IsGrammar g → is_quiet file line ≡ true → Quietly p (apply_line g p file cursor line).policy
unfolding apply_line apply_read
line-quietly g p file cursor line grammar quiet = go (g.read_line file line) (λ rule. grammar.quiet file line rule quiet)
  where
    go : (r : Result PolicyLine LineKind) → ((rule : PolicyLine) → r ≡ Ok rule → is_quiet_rule rule ≡ true) → Quietly p (apply_parsed p cursor r).policy
    go (Err kind) h = Quietly.Others refl refl
    go (Ok PolicyLine.Nothing) h = Quietly.Others refl refl
    go (Ok (PolicyLine.Profile effect)) h = absurd (true≢false (sym (h (PolicyLine.Profile effect) refl)))
    go (Ok (PolicyLine.Exception rule)) h = absurd (true≢false (sym (h (PolicyLine.Exception rule) refl)))
    go (Ok (PolicyLine.Group line)) h =
        let parts = and_parts (not line.delete) (not (lets_execute line.entry)) (h (PolicyLine.Group line) refl) in
        group-quietly p cursor line (not-false line.delete parts.0) (not-false (lets_execute line.entry) parts.1)
    go (Ok (PolicyLine.Domain rule)) h = domain-quietly p cursor rule (h (PolicyLine.Domain rule) refl)
    go (Ok (PolicyLine.Manager delete rule)) h = manager-quietly p cursor delete rule

-- ACL groups

-- what a map has after a key is put
pub at-put : {A : Type 0} (n m : ℕ) (v : A) (pairs : List (ℕ × A)) → at_key (put_key n v pairs) m ≡ (if n == m then Some v else at_key pairs m)
at-put n m v [] = refl
at-put {A} n m v (e ∷ es) = go (nat_lt e.0 n) refl (e.0 == n) refl (at-put n m v es)
  where
    swap : (b c : Bool) (x y z : Option A) → (b ≡ true → c ≡ true → ⊥) → (if b then x else (if c then y else z)) ≡ (if c then y else (if b then x else z))
    swap true true x y z h = absurd (h refl refl)
    swap true false x y z h = refl
    swap false c x y z h = refl

    skip : (b c : Bool) (x y z : Option A) → b ≡ c → (if b then x else z) ≡ (if b then x else (if c then y else z))
    skip true c x y z h = refl
    skip false true x y z h = absurd (true≢false (sym h))
    skip false false x y z h = refl

    go : (l : Bool) → nat_lt e.0 n ≡ l → (b : Bool) → (e.0 == n) ≡ b → at_key (put_key n v es) m ≡ (if n == m then Some v else at_key es m) → at_key (if l then e ∷ put_key n v es else (if b then (n, v) ∷ es else (n, v) ∷ e ∷ es)) m ≡ (if n == m then Some v else (if e.0 == m then Some e.1 else at_key es m))
    go true less b is ih = rw ih (swap (e.0 == m) (n == m) (Some e.1) (Some v) (at_key es m) (λ p q. apart (eqb-true e.0 m p) (eqb-true n m q)))
      where
        apart : e.0 ≡ m → n ≡ m → ⊥
        apart p q = let same : e.0 ≡ n = p ∙ sym q in let lt : e.0 < n = ltb-true e.0 n less in omega arith
    go false less true is ih = skip (n == m) (e.0 == m) (Some v) (Some e.1) (at_key es m) (ap (λ k. k == m) (sym (eqb-true e.0 n is)))
    go false less false is ih = refl

-- a group to which a line was added isn't empty
pub adding-put : (n : ℕ) (line : Entry) (xs : List Entry) (groups : List (ℕ × List Entry)) → put_group n (adding line xs) groups ≡ put_key n (adding line xs) groups
unfolding adding
adding-put n line [] groups = refl
adding-put n line (x ∷ xs) groups = go (same_line x line)
  where
    go : (b : Bool) → (let ys : List Entry = if b then record x { perms = record { bits = bit_or x.perms.bits line.perms.bits } } ∷ xs else x ∷ adding line xs in put_group n ys groups ≡ put_key n ys groups)
    go true = refl
    go false = refl

group-grows : (n : ℕ) (line : Entry) (ns : Namespace) → NamespaceGrows ns (with_group n (adding line (acl_group ns n)) ns)
group-grows n line ns = record { same = refl; groups = λ m. rw (adding-put n line (acl_group ns n) ns.acl_groups, at-put n m (adding line (acl_group ns n)) ns.acl_groups) (go m (n == m) refl) }
  where
    go : (m : ℕ) (b : Bool) → (n == m) ≡ b → EntriesGrow (acl_group ns m) (unwrap_or (if b then Some (adding line (acl_group ns n)) else at_key ns.acl_groups m) [])
    go m true e = subst (λ k. EntriesGrow (acl_group ns k) (adding line (acl_group ns n))) (eqb-true n m e) (EntriesGrow-adding line (acl_group ns n))
    go m false e = EntriesGrow-refl (acl_group ns m)

-- the namespace of that name among these
abbrev named_in : List Namespace → Text → Namespace
named_in list word = unwrap_or (find (λ (ns : Namespace). texts_equal ns.name word) list) (empty_namespace word)

named_in-grows : (change : Namespace → Namespace) → ((ns : Namespace) → NamespaceGrows ns (change ns)) → (name word : Text) (list : List Namespace) → NamespaceGrows (named_in list word) (named_in (in_namespace name change list) word)
named_in-grows change grows name word [] = go (texts_equal (change (empty_namespace name)).name word) refl
  where
    named : (change (empty_namespace name)).name ≡ name
    named = sym (ap (λ (ns : Namespace). ns.name) (grows (empty_namespace name)).same)

    go : (b : Bool) → texts_equal (change (empty_namespace name)).name word ≡ b → NamespaceGrows (empty_namespace word) (unwrap_or (cond b (Some (change (empty_namespace name))) None) (empty_namespace word))
    go true e = subst (λ w. NamespaceGrows (empty_namespace w) (change (empty_namespace name))) (sym named ∙ same_texts (change (empty_namespace name)).name word e) (grows (empty_namespace name))
    go false e = NamespaceGrows-refl (empty_namespace word)
named_in-grows change grows name word (ns ∷ rest) = go (texts_equal ns.name name) (named_in-grows change grows name word rest)
  where
    named : ns.name ≡ (change ns).name
    named = ap (λ (m : Namespace). m.name) (grows ns).same

    here : (c : Bool) → NamespaceGrows (unwrap_or (cond c (Some ns) (find (λ (m : Namespace). texts_equal m.name word) rest)) (empty_namespace word)) (unwrap_or (cond c (Some (change ns)) (find (λ (m : Namespace). texts_equal m.name word) rest)) (empty_namespace word))
    here true = grows ns
    here false = NamespaceGrows-refl (named_in rest word)

    later : (c : Bool) → NamespaceGrows (named_in rest word) (named_in (in_namespace name change rest) word) → NamespaceGrows (unwrap_or (cond c (Some ns) (find (λ (m : Namespace). texts_equal m.name word) rest)) (empty_namespace word)) (unwrap_or (cond c (Some ns) (find (λ (m : Namespace). texts_equal m.name word) (in_namespace name change rest))) (empty_namespace word))
    later true ih = NamespaceGrows-refl ns
    later false ih = ih

    go : (b : Bool) → NamespaceGrows (named_in rest word) (named_in (in_namespace name change rest) word) → NamespaceGrows (named_in (ns ∷ rest) word) (named_in (if b then change ns ∷ rest else ns ∷ in_namespace name change rest) word)
    go true ih =
        subst (λ (m : Text). NamespaceGrows (named_in (ns ∷ rest) word) (unwrap_or (cond (texts_equal m word) (Some (change ns)) (find (λ (o : Namespace). texts_equal o.name word) rest)) (empty_namespace word))) named
        (here (texts_equal ns.name word))
    go false ih = later (texts_equal ns.name word) ih

-- Policies

namespace-grows : (p : Policy) (name : Text) (change : Namespace → Namespace) → ((ns : Namespace) → NamespaceGrows ns (change ns)) → Grows p (changing_namespace p name change)
unfolding namespace_named
namespace-grows p name change grows = record { domains = λ d x at. (x, at, DomainGrows-refl x); namespaces = λ word. named_in-grows change grows name word p.namespaces }

same-grows : (p q : Policy) → q.domains ≡ p.domains → q.namespaces ≡ p.namespaces → Grows p q
unfolding namespace_named
same-grows p q domains namespaces =
    record {
      domains = λ d x at. (x, rw domains at, DomainGrows-refl x);
      namespaces = λ word. rw namespaces (NamespaceGrows-refl (named_in p.namespaces word));
    }

pub quietly-grows : (p q : Policy) → Quietly p q → Grows p q
quietly-grows p q (Quietly.Others domains namespaces) = same-grows p q domains namespaces
quietly-grows p q (Quietly.Own d x entry there quiet is) = rw is (with_domain-grows p d x (record x { entries = adding entry x.entries }) there (record { same = refl; entries = EntriesGrow-adding entry x.entries }))
quietly-grows p q (Quietly.Acl line quiet is) = rw is (namespace-grows p line.namespace (λ ns. with_group line.group (adding line.entry (acl_group ns line.group)) ns) (group-grows line.group line.entry))

pub quiet-lines-grow : (g : Grammar) → IsGrammar g → QuietLinesGrow g
quiet-lines-grow g grammar =
    record {
      quiet = λ p file c line done quiet. quietly-grows p (apply_line g p file c line).policy (line-quietly g p file c line grammar quiet);
      refused = λ p file c line e. (line-refuses g p file c line).same e;
    }
