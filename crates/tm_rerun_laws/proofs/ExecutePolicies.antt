-- What an execute finds in a policy, and in the policy after a change.
use Rattle.std.proofs.Common.{◌≡◌, ◌<◌, ℕ, zero, suc, List, [], ◌∷◌, ◌++◌, Bool, true, false, refl, sym, ap, ◌∙◌, subst, arith, inl, inr, ◌⊎◌}
use Rattle.std.specs.Prelude.{Option, Some, None, ◌==◌, cond, if◌then◌else◌, slice_get, option_map, unwrap_or, nat_lt}
use Rattle.std.specs.List.{list_all, find}
use Rattle.std.proofs.lemmas.Bool.{eqb-true, eq-eqb, ltb-true, and_parts, cases_eq, ne_eqb}
use Rattle.tm_word.specs.Prelude.{Text, texts_equal}
use Rattle.tm_rules.specs.Types.{Domain, Entry, EntryPlace, Groups, Namespace, Policy, Proc, Request}
use Rattle.tm_rules.specs.Prelude.{Numbers, acl_group, adding, are_plain_groups, at_key, changed_at, changing_namespace, domain_at, empty_namespace, entries_of, first, in_namespace, is_plain, is_plain_domain, is_plain_entry, namespace_named, namespace_of, namespace_word, placed, put_group, put_key, same_line, searched, with_domain, with_group}
use Rattle.tm_legal.specs.Prelude.{Execute, execute_found, execute_request, line_found, nobody}
use Rattle.tm_rerun_laws.proofs.Executes.{IsExecute, look_of, Blind, joined}
use Rattle.tm_rerun_laws.proofs.ExecuteLists.{plain_pair, seen, first-seen, plain-seen, plain-placed, plain-append, seen-blind, acl_pairs, seen_in, entries-seen, seen_in-blind, seen_in-groups}

-- What is found

pub found-is : (p : Policy) (d : ℕ) (x : Execute) (domain : Domain) → domain_at p d ≡ Some domain → execute_found p d x ≡ seen_in x (namespace_of p domain) domain
found-is p d x domain at =
    let ns : Namespace = namespace_of p domain in
    rw at (first-seen ns.groups nobody (execute_request x) (entries_of ns domain) ∙ entries-seen x ns domain)

-- Plain policies

all-got : {A : Type 0} (t : A → Bool) (xs : List A) (k : ℕ) (x : A) → list_all t xs ≡ true → slice_get xs k ≡ Some x → t x ≡ true
all-got t [] k x all at = absurd cc
all-got t (y ∷ xs) zero x all at = let same : y ≡ x = cc in rw (← same) (and_parts (t y) (list_all t xs) all).0
all-got t (y ∷ xs) (suc k) x all at = all-got t xs k x (and_parts (t y) (list_all t xs) all).1 at

plain-entries : (p : Policy) (d : ℕ) (domain : Domain) → is_plain p ≡ true → domain_at p d ≡ Some domain → domain.live ≡ true → list_all is_plain_entry domain.entries ≡ true
unfolding is_plain
plain-entries p d domain plain at live =
    let each : is_plain_domain domain ≡ true = all-got is_plain_domain p.domains d domain (and_parts (list_all is_plain_domain p.domains) (list_all are_plain_groups p.namespaces) plain).0 at in
    rw live at each

abbrev plain_group : ℕ × List Entry → Bool
plain_group group = list_all is_plain_entry group.1

plain-named : (name : Text) (list : List Namespace) → list_all are_plain_groups list ≡ true → are_plain_groups (unwrap_or (find (λ (ns : Namespace). texts_equal ns.name name) list) (empty_namespace name)) ≡ true
plain-named name [] plain = refl
plain-named name (ns ∷ list) plain =
    let parts = and_parts (are_plain_groups ns) (list_all are_plain_groups list) plain in
    go (texts_equal ns.name name) parts.0 (plain-named name list parts.1)
  where
    found : Option Namespace
    found = find (λ (ns : Namespace). texts_equal ns.name name) list

    go : (b : Bool) → are_plain_groups ns ≡ true → are_plain_groups (unwrap_or found (empty_namespace name)) ≡ true → are_plain_groups (unwrap_or (cond b (Some ns) found) (empty_namespace name)) ≡ true
    go true here ih = here
    go false here ih = ih

plain-namespace : (p : Policy) (name : Text) → is_plain p ≡ true → are_plain_groups (namespace_named p name) ≡ true
unfolding is_plain namespace_named
plain-namespace p name plain = plain-named name p.namespaces (and_parts (list_all is_plain_domain p.domains) (list_all are_plain_groups p.namespaces) plain).1

plain-at : (groups : List (ℕ × List Entry)) (n : ℕ) → list_all plain_group groups ≡ true → list_all is_plain_entry (unwrap_or (at_key groups n) []) ≡ true
plain-at [] n plain = refl
plain-at (group ∷ groups) n plain =
    let parts = and_parts (plain_group group) (list_all plain_group groups) plain in
    go (group.0 == n) parts.0 (plain-at groups n parts.1)
  where
    go : (b : Bool) → plain_group group ≡ true → list_all is_plain_entry (unwrap_or (at_key groups n) []) ≡ true → list_all is_plain_entry (unwrap_or (if b then Some group.1 else at_key groups n) []) ≡ true
    go true here ih = here
    go false here ih = ih

plain-acl : (ns : Namespace) (members : Numbers) → are_plain_groups ns ≡ true → list_all plain_pair (acl_pairs ns members) ≡ true
plain-acl ns [] plain = refl
plain-acl ns (member ∷ members) plain =
    plain-append (placed (EntryPlace.Acl member.0) 0 (unwrap_or (at_key ns.acl_groups member.0) [])) (acl_pairs ns members) (plain-placed (EntryPlace.Acl member.0) 0 (unwrap_or (at_key ns.acl_groups member.0) []) (plain-at ns.acl_groups member.0 plain)) (plain-acl ns members plain)

-- in a plain policy an execute finds in a live domain what its three values find
pub plain-first : (p : Policy) (d : ℕ) (domain : Domain) (process : Proc) (r : Request) (x : Execute) → is_plain p ≡ true → domain_at p d ≡ Some domain → domain.live ≡ true → IsExecute x (searched (namespace_of p domain) r) → option_map line_found (first (namespace_of p domain) domain process r) ≡ execute_found p d x
unfolding first entries_of
plain-first p d domain process r x plain at live is =
    let ns : Namespace = namespace_of p domain in
    first-seen ns.groups process (searched ns r) (entries_of ns domain)
    ∙ plain-seen ns.groups x process (searched ns r) is (entries_of ns domain)
    (plain-append (placed EntryPlace.Own 0 domain.entries) (acl_pairs ns domain.groups) (plain-placed EntryPlace.Own 0 domain.entries (plain-entries p d domain plain at live)) (plain-acl ns domain.groups (plain-namespace p (namespace_word domain.name) plain)))
    ∙ entries-seen x ns domain
    ∙ sym (found-is p d x domain at)

-- Policies that were changed

-- where it is found, an execute finds the same
abbrev pub SameFound : Policy → Policy → Type 0
SameFound p q = (d : ℕ) (domain : Domain) (x : Execute) → domain_at p d ≡ Some domain → execute_found q d x ≡ execute_found p d x

named-same : (p q : Policy) (name : Text) → q.namespaces ≡ p.namespaces → namespace_named q name ≡ namespace_named p name
unfolding namespace_named
named-same p q name same = rw same refl

-- the same namespaces, and the domain is as it was
pub found-same : (p q : Policy) (d : ℕ) (domain : Domain) (x : Execute) → q.namespaces ≡ p.namespaces → domain_at p d ≡ Some domain → domain_at q d ≡ Some domain → execute_found q d x ≡ execute_found p d x
found-same p q d domain x same at there =
    found-is q d x domain there ∙ ap (λ ns. seen_in x ns domain) (named-same p q (namespace_word domain.name) same) ∙ sym (found-is p d x domain at)

changed-here : {A : Type 0} (change : A → A) (xs : List A) (k : ℕ) (x : A) → slice_get xs k ≡ Some x → slice_get (changed_at k change xs) k ≡ Some (change x)
changed-here change [] k x at = absurd cc
changed-here change (y ∷ xs) zero x at = let same : y ≡ x = cc in ap (λ z. Some (change z)) same
changed-here change (y ∷ xs) (suc k) x at = changed-here change xs k x at

changed-other : {A : Type 0} (change : A → A) (xs : List A) (k n : ℕ) → (n ≡ k → ⊥) → slice_get (changed_at k change xs) n ≡ slice_get xs n
changed-other change [] k n other = refl
changed-other change (y ∷ xs) zero zero other = absurd (other refl)
changed-other change (y ∷ xs) zero (suc n) other = refl
changed-other change (y ∷ xs) (suc k) zero other = refl
changed-other change (y ∷ xs) (suc k) (suc n) other = changed-other change xs k n (λ same. other (ap suc same))

pub changed-is : (p : Policy) (e : ℕ) (old new : Domain) (x : Execute) → domain_at p e ≡ Some old → new.name ≡ old.name → execute_found (with_domain p e new) e x ≡ seen_in x (namespace_of p old) new
changed-is p e old new x at name =
    let q : Policy = with_domain p e new in
    found-is q e x new (changed-here (λ z. new) p.domains e old at) ∙ ap (λ ns. seen_in x ns new) (named-same p q (namespace_word new.name) refl ∙ ap (λ n. namespace_named p (namespace_word n)) name)

-- another domain
pub other-same : (p : Policy) (e d : ℕ) (new domain : Domain) (x : Execute) → (d ≡ e → ⊥) → domain_at p d ≡ Some domain → execute_found (with_domain p e new) d x ≡ execute_found p d x
other-same p e d new domain x other at = found-same p (with_domain p e new) d domain x refl at (changed-other (λ z. new) p.domains e d other ∙ at)

-- a changed domain in which it sees the same
pub changed-sees : (p : Policy) (e : ℕ) (old new : Domain) (x : Execute) → domain_at p e ≡ Some old → new.name ≡ old.name → seen_in x (namespace_of p old) new ≡ seen_in x (namespace_of p old) old → (d : ℕ) (domain : Domain) → domain_at p d ≡ Some domain → execute_found (with_domain p e new) d x ≡ execute_found p d x
changed-sees p e old new x was name sees d domain at = go (cases_eq d e)
  where
    go : (d ≡ e) ⊎ (d ≡ e → ⊥) → execute_found (with_domain p e new) d x ≡ execute_found p d x
    go (inl same) = rw same (changed-is p e old new x was name ∙ sees ∙ sym (found-is p e x old was))
    go (inr other) = other-same p e d new domain x other at

pub changed-same : (p : Policy) (e : ℕ) (old new : Domain) → domain_at p e ≡ Some old → new.name ≡ old.name → ((x : Execute) → seen_in x (namespace_of p old) new ≡ seen_in x (namespace_of p old) old) → SameFound p (with_domain p e new)
changed-same p e old new was name sees d domain x at = changed-sees p e old new x was name (sees x) d domain at

-- a line that it doesn't see
pub line-sees : (p : Policy) (e : ℕ) (old : Domain) (line : Entry) (x : Execute) → domain_at p e ≡ Some old → Blind (namespace_of p old).groups x line → (d : ℕ) (domain : Domain) → domain_at p d ≡ Some domain → execute_found (with_domain p e (record old { entries = adding line old.entries })) d x ≡ execute_found p d x
line-sees p e old line x was blind = changed-sees p e old (record old { entries = adding line old.entries }) x was refl (seen_in-blind x (namespace_of p old) old line blind)

-- a line that no execute sees
pub line-same : (p : Policy) (e : ℕ) (old : Domain) (line : Entry) → domain_at p e ≡ Some old → ((groups : Groups) (x : Execute) → Blind groups x line) → SameFound p (with_domain p e (record old { entries = adding line old.entries }))
line-same p e old line was blind d domain x at = line-sees p e old line x was (blind (namespace_of p old).groups x) d domain at

get-front : (xs ys : List Domain) (d : ℕ) (x : Domain) → slice_get xs d ≡ Some x → slice_get (xs ++ ys) d ≡ Some x
get-front [] ys d x at = absurd cc
get-front (a ∷ xs) ys zero x at = at
get-front (a ∷ xs) ys (suc d) x at = get-front xs ys d x at

-- further domains
pub made-same : (p : Policy) (new : List Domain) → SameFound p (record p { domains = p.domains ++ new })
made-same p new d domain x at = found-same p (record p { domains = p.domains ++ new }) d domain x refl at (get-front p.domains new d domain at)

-- other parts
pub rest-same : (p q : Policy) → q.namespaces ≡ p.namespaces → q.domains ≡ p.domains → SameFound p q
rest-same p q names domains d domain x at = found-same p q d domain x names at (rw domains at)

-- A line of an ACL group

-- all executes see the same
pub record SameGroups (ns new : Namespace) : Type 0 where
  pub groups : new.groups ≡ ns.groups
  pub acl : (x : Execute) (g : ℕ) → seen (look_of ns.groups x) (placed (EntryPlace.Acl g) 0 (acl_group new g)) ≡ seen (look_of ns.groups x) (placed (EntryPlace.Acl g) 0 (acl_group ns g))

put-here : {A : Type 0} (k : ℕ) (v : A) (pairs : List (ℕ × A)) → at_key (put_key k v pairs) k ≡ Some v
put-here k v [] = rw (eq-eqb k k refl) refl
put-here {A} k v (pair ∷ pairs) = go (nat_lt pair.0 k) refl (pair.0 == k) (put-here k v pairs)
  where
    own : (rest : List (ℕ × A)) → at_key ((k, v) ∷ rest) k ≡ Some v
    own rest = rw (eq-eqb k k refl) refl

    apart : nat_lt pair.0 k ≡ true → (pair.0 == k) ≡ false
    apart lt = ne_eqb pair.0 k (λ same. let below : pair.0 < k = ltb-true pair.0 k lt in omega arith)

    go : (l : Bool) → nat_lt pair.0 k ≡ l → (b : Bool) → at_key (put_key k v pairs) k ≡ Some v → at_key (if l then pair ∷ put_key k v pairs else (if b then (k, v) ∷ pairs else (k, v) ∷ pair ∷ pairs)) k ≡ Some v
    go true lt b ih = rw (apart lt) ih
    go false ge true ih = own pairs
    go false ge false ih = own (pair ∷ pairs)

put-other : {A : Type 0} (k n : ℕ) (v : A) (pairs : List (ℕ × A)) → (k ≡ n → ⊥) → at_key (put_key k v pairs) n ≡ at_key pairs n
put-other k n v [] other = rw (ne_eqb k n other) refl
put-other {A} k n v (pair ∷ pairs) other = go (nat_lt pair.0 k) (pair.0 == k) refl (put-other k n v pairs other)
  where
    front : (rest : List (ℕ × A)) → at_key ((k, v) ∷ rest) n ≡ at_key rest n
    front rest = rw (ne_eqb k n other) refl

    go : (l : Bool) (b : Bool) → (pair.0 == k) ≡ b → at_key (put_key k v pairs) n ≡ at_key pairs n → at_key (if l then pair ∷ put_key k v pairs else (if b then (k, v) ∷ pairs else (k, v) ∷ pair ∷ pairs)) n ≡ at_key (pair ∷ pairs) n
    go true b e ih = rw ih refl
    go false true e ih = front pairs ∙ sym (rw (ne_eqb pair.0 n (λ same. other (sym (eqb-true pair.0 k e) ∙ same))) refl)
    go false false e ih = front (pair ∷ pairs)

put_group-adding : (n : ℕ) (line : Entry) (entries : List Entry) (groups : List (ℕ × List Entry)) → put_group n (adding line entries) groups ≡ put_key n (adding line entries) groups
unfolding adding
put_group-adding n line [] groups = refl
put_group-adding n line (e ∷ es) groups = go (same_line e line)
  where
    go : (b : Bool) → put_group n (if b then joined e line ∷ es else e ∷ adding line es) groups ≡ put_key n (if b then joined e line ∷ es else e ∷ adding line es) groups
    go true = refl
    go false = refl

-- the group with a line more
abbrev with_line : ℕ → Entry → Namespace → Namespace
with_line n line ns = with_group n (adding line (acl_group ns n)) ns

with_line-same : (n : ℕ) (line : Entry) (ns : Namespace) → ((groups : Groups) (x : Execute) → Blind groups x line) → SameGroups ns (with_line n line ns)
with_line-same n line ns blind = record { groups = refl; acl = λ x g. go x g (cases_eq n g) }
  where
    new : List (ℕ × List Entry)
    new = put_key n (adding line (acl_group ns n)) ns.acl_groups

    is : (g : ℕ) → acl_group (with_line n line ns) g ≡ unwrap_or (at_key new g) []
    is g = ap (λ groups. unwrap_or (at_key groups g) []) (put_group-adding n line (acl_group ns n) ns.acl_groups)

    here : acl_group (with_line n line ns) n ≡ adding line (acl_group ns n)
    here = is n ∙ ap (λ o. unwrap_or o []) (put-here n (adding line (acl_group ns n)) ns.acl_groups)

    go : (x : Execute) (g : ℕ) → (n ≡ g) ⊎ (n ≡ g → ⊥) → seen (look_of ns.groups x) (placed (EntryPlace.Acl g) 0 (acl_group (with_line n line ns) g)) ≡ seen (look_of ns.groups x) (placed (EntryPlace.Acl g) 0 (acl_group ns g))
    go x g (inl same) =
        subst (λ k. seen (look_of ns.groups x) (placed (EntryPlace.Acl k) 0 (acl_group (with_line n line ns) k)) ≡ seen (look_of ns.groups x) (placed (EntryPlace.Acl k) 0 (acl_group ns k))) same
        (ap (λ es. seen (look_of ns.groups x) (placed (EntryPlace.Acl n) 0 es)) here ∙ seen-blind ns.groups x line (blind ns.groups x) (EntryPlace.Acl n) 0 (acl_group ns n))
    go x g (inr other) =
        ap (λ es. seen (look_of ns.groups x) (placed (EntryPlace.Acl g) 0 es)) (is g ∙ ap (λ o. unwrap_or o []) (put-other n g (adding line (acl_group ns n)) ns.acl_groups other))

SameGroups-refl : (ns : Namespace) → SameGroups ns ns
SameGroups-refl ns = record { groups = refl; acl = λ x g. refl }

named-group : (name word : Text) (n : ℕ) (line : Entry) → ((groups : Groups) (x : Execute) → Blind groups x line) → (list : List Namespace)
    → SameGroups (unwrap_or (find (λ (ns : Namespace). texts_equal ns.name word) list) (empty_namespace word)) (unwrap_or (find (λ (ns : Namespace). texts_equal ns.name word) (in_namespace name (with_line n line) list)) (empty_namespace word))
named-group name word n line blind [] = go (texts_equal name word)
  where
    empty : SameGroups (empty_namespace word) (with_line n line (empty_namespace name))
    empty = let s = with_line-same n line (empty_namespace name) blind in record { groups = s.groups; acl = s.acl }

    go : (b : Bool) → SameGroups (empty_namespace word) (unwrap_or (cond b (Some (with_line n line (empty_namespace name))) None) (empty_namespace word))
    go true = empty
    go false = SameGroups-refl (empty_namespace word)
named-group name word n line blind (ns ∷ rest) = go (texts_equal ns.name name) (named-group name word n line blind rest)
  where
    before : Option Namespace
    before = find (λ (ns : Namespace). texts_equal ns.name word) rest

    after : Option Namespace
    after = find (λ (ns : Namespace). texts_equal ns.name word) (in_namespace name (with_line n line) rest)

    here : (c : Bool) → SameGroups (unwrap_or (cond c (Some ns) before) (empty_namespace word)) (unwrap_or (cond c (Some (with_line n line ns)) before) (empty_namespace word))
    here true = with_line-same n line ns blind
    here false = SameGroups-refl (unwrap_or before (empty_namespace word))

    later : (c : Bool) → SameGroups (unwrap_or before (empty_namespace word)) (unwrap_or after (empty_namespace word)) → SameGroups (unwrap_or (cond c (Some ns) before) (empty_namespace word)) (unwrap_or (cond c (Some ns) after) (empty_namespace word))
    later true ih = SameGroups-refl ns
    later false ih = ih

    go : (b : Bool) → SameGroups (unwrap_or before (empty_namespace word)) (unwrap_or after (empty_namespace word))
        → SameGroups (unwrap_or (cond (texts_equal ns.name word) (Some ns) before) (empty_namespace word)) (unwrap_or (find (λ (ns : Namespace). texts_equal ns.name word) (if b then with_line n line ns ∷ rest else ns ∷ in_namespace name (with_line n line) rest)) (empty_namespace word))
    go true ih = here (texts_equal ns.name word)
    go false ih = later (texts_equal ns.name word) ih

pub group-same : (p : Policy) (name : Text) (n : ℕ) (line : Entry) → ((groups : Groups) (x : Execute) → Blind groups x line) → SameFound p (changing_namespace p name (λ ns. with_group n (adding line (acl_group ns n)) ns))
unfolding namespace_named
group-same p name n line blind d domain x at =
    let q : Policy = changing_namespace p name (λ ns. with_group n (adding line (acl_group ns n)) ns) in
    let s : SameGroups (namespace_of p domain) (namespace_of q domain) = named-group name (namespace_word domain.name) n line blind p.namespaces in
    found-is q d x domain at ∙ seen_in-groups x (namespace_of p domain) (namespace_of q domain) domain s.groups (s.acl x) ∙ sym (found-is p d x domain at)
