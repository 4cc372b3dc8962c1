-- A clean step keeps a policy plain, where a line that is learned is plain.
use Rattle.std.proofs.Common.{◌≡◌, max, ℕ, zero, suc, List, [], ◌∷◌, ◌++◌, Bool, true, false, true≢false, refl, sym, subst, arith}
use Rattle.std.specs.Prelude.{Some, ◌&&◌, ◌||◌, ◌==◌, nat_lt, if◌then◌else◌, slice_get, unwrap_or, bit_or, not}
use Rattle.std.specs.List.{list_all}
use Rattle.std.specs.Int.{bit_at}
use Rattle.std.proofs.lemmas.Nat.Bits.{bit_at_or}
use Rattle.std.proofs.lemmas.Bool.{and_from, and_parts}
use Rattle.std.proofs.lemmas.Bool.Decides.{nat_tests}
use Rattle.tm_word.specs.Prelude.{Text, texts_equal}
use Rattle.tm_rules.specs.Types.{Args, Cond, Domain, Entry, Namespace, Policy, Step}
use Rattle.tm_rules.proofs.EqualityLaws.{same_args, same_conds}
use Rattle.tm_rules.specs.Prelude.{acl_group, adding, are_plain_groups, args_equal, at_key, changed_at, conds_equal, domain_at, empty_namespace, has_permission, in_namespace, is_plain, is_plain_clause, is_plain_domain, is_plain_entry, lets_execute, put_key, same_line, with_domain, with_group}
use Rattle.tm_legal.specs.Prelude.{at}
use Rattle.tm_rerun_laws.proofs.QuietLines.{Quietly, adding-put}

-- Lists of which all pass a test

all-changed : {A : Type 0} (t : A → Bool) (d : ℕ) (new : A) (xs : List A) → t new ≡ true → list_all t xs ≡ true → list_all t (changed_at d (λ x. new) xs) ≡ true
all-changed t d new [] h all = refl
all-changed t zero new (x ∷ xs) h all = and_from (t new) (list_all t xs) h (and_parts (t x) (list_all t xs) all).1
all-changed t (suc d) new (x ∷ xs) h all =
    let parts = and_parts (t x) (list_all t xs) all in
    and_from (t x) (list_all t (changed_at d (λ y. new) xs)) parts.0 (all-changed t d new xs h parts.1)

all-get : {A : Type 0} (t : A → Bool) (xs : List A) (d : ℕ) (x : A) → list_all t xs ≡ true → slice_get xs d ≡ Some x → t x ≡ true
all-get t [] d x all at = absurd cc
all-get t (y ∷ xs) zero x all at = let same : y ≡ x = cc in subst (λ z. t z ≡ true) same (and_parts (t y) (list_all t xs) all).0
all-get t (y ∷ xs) (suc d) x all at = all-get t xs d x (and_parts (t y) (list_all t xs) all).1 at

all-push : {A : Type 0} (t : A → Bool) (xs : List A) (x : A) → list_all t xs ≡ true → t x ≡ true → list_all t (xs ++ x ∷ []) ≡ true
all-push t [] x all h = rw h refl
all-push t (y ∷ xs) x all h = let parts = and_parts (t y) (list_all t xs) all in and_from (t y) (list_all t (xs ++ x ∷ [])) parts.0 (all-push t xs x parts.1 h)

all-put : {A : Type 0} (t : ℕ × A → Bool) (n : ℕ) (v : A) (pairs : List (ℕ × A)) → t (n, v) ≡ true → list_all t pairs ≡ true → list_all t (put_key n v pairs) ≡ true
all-put t n v [] h all = rw h refl
all-put {A} t n v (e ∷ es) h all = go (nat_lt e.0 n) (e.0 == n) (all-put t n v es h parts.1)
  where
    parts : (t e ≡ true) × (list_all t es ≡ true)
    parts = and_parts (t e) (list_all t es) all

    go : (l b : Bool) → list_all t (put_key n v es) ≡ true → list_all t (if l then e ∷ put_key n v es else (if b then (n, v) ∷ es else (n, v) ∷ e ∷ es)) ≡ true
    go true b ih = and_from (t e) (list_all t (put_key n v es)) parts.0 ih
    go false true ih = and_from (t (n, v)) (list_all t es) h parts.1
    go false false ih = and_from (t (n, v)) (t e && list_all t es) h all

-- Plain entries

-- an entry that lets nothing be executed
quiet-plain : (entry : Entry) → lets_execute entry ≡ false → is_plain_entry entry ≡ true
quiet-plain entry e = rw e refl

pub or-true : (b : Bool) → (b || true) ≡ true
or-true true = refl
or-true false = refl

none-joined : (a b place : ℕ) → has_permission a place ≡ false → has_permission b place ≡ false → has_permission (bit_or a b) place ≡ false
none-joined a b place h k = rw (bit_at_or a b place) (neither (bit_at a place) (bit_at b place) h k)
  where
    neither : (x y : ℕ) → (x == 1) ≡ false → (y == 1) ≡ false → (max x y == 1) ≡ false
    neither x y h k = grind (arith, nat_tests)

-- entries with the same arguments and the same condition join into a plain one
joined-plain : (args : Args) (a b : ℕ) (cond : Cond) → (let x : Entry = record { args = args; perms = record { bits = a }; cond = cond } in let y : Entry = record { args = args; perms = record { bits = b }; cond = cond } in let z : Entry = record { args = args; perms = record { bits = bit_or a b }; cond = cond } in is_plain_entry x ≡ true → is_plain_entry y ≡ true → is_plain_entry z ≡ true)
joined-plain args a b cond = by_args args
  where
    plain : Bool
    plain = list_all is_plain_clause cond.clauses

    bits : (c : Bool) → (not (has_permission a 0) || c) ≡ true → (not (has_permission b 0) || c) ≡ true → (not (has_permission (bit_or a b) 0) || c) ≡ true
    bits true h k = or-true (not (has_permission (bit_or a b) 0))
    bits false h k = rw (none-joined a b 0 (none (has_permission a 0) h) (none (has_permission b 0) k)) refl
      where
        none : (p : Bool) → (not p || false) ≡ true → p ≡ false
        none true e = absurd (true≢false (sym e))
        none false e = refl

    by_args : (args : Args) → (let x : Entry = record { args = args; perms = record { bits = a }; cond = cond } in let y : Entry = record { args = args; perms = record { bits = b }; cond = cond } in let z : Entry = record { args = args; perms = record { bits = bit_or a b }; cond = cond } in is_plain_entry x ≡ true → is_plain_entry y ≡ true → is_plain_entry z ≡ true)
    by_args (Args.Path n) h k = bits plain h k
    by_args (Args.Execute n prefer) h k = bits plain h k
    by_args (Args.PathNumber n m) h k = refl
    by_args (Args.Device n x y z) h k = refl
    by_args (Args.Path2 n m) h k = refl
    by_args (Args.Mount n m x y) h k = refl
    by_args (Args.Inet n m x) h k = refl
    by_args (Args.Unix n m) h k = refl
    by_args (Args.Env n) h k = refl
    by_args (Args.Manual n) h k = refl

pub adding-plain : (line : Entry) (xs : List Entry) → is_plain_entry line ≡ true → list_all is_plain_entry xs ≡ true → list_all is_plain_entry (adding line xs) ≡ true
unfolding adding
adding-plain line [] h all = rw h refl
adding-plain line (x ∷ xs) h all = go (same_line x line) refl (adding-plain line xs h parts.1)
  where
    parts : (is_plain_entry x ≡ true) × (list_all is_plain_entry xs ≡ true)
    parts = and_parts (is_plain_entry x) (list_all is_plain_entry xs) all

    joined : Entry
    joined = record x { perms = record { bits = bit_or x.perms.bits line.perms.bits } }

    same : same_line x line ≡ true → is_plain_entry joined ≡ true
    same e =
        let equal = and_parts (args_equal x.args line.args) (conds_equal x.cond line.cond) e in
        let args : line.args ≡ x.args = sym (same_args.sound x.args line.args equal.0) in
        let cond : line.cond ≡ x.cond = sym (same_conds.sound x.cond line.cond equal.1) in
        joined-plain x.args x.perms.bits line.perms.bits x.cond parts.0
        (subst (λ (c : Cond). is_plain_entry (record line { args = x.args; cond = c }) ≡ true) cond (subst (λ (a : Args). is_plain_entry (record line { args = a }) ≡ true) args h))

    go : (b : Bool) → same_line x line ≡ b → list_all is_plain_entry (adding line xs) ≡ true → list_all is_plain_entry (if b then joined ∷ xs else x ∷ adding line xs) ≡ true
    go true e ih = and_from (is_plain_entry joined) (list_all is_plain_entry xs) (same e) parts.1
    go false e ih = and_from (is_plain_entry x) (list_all is_plain_entry (adding line xs)) parts.0 ih

-- Plain domains and ACL groups

domain-plain : (line : Entry) (x : Domain) → is_plain_entry line ≡ true → is_plain_domain x ≡ true → is_plain_domain (record x { entries = adding line x.entries }) ≡ true
domain-plain line x h = go x.live
  where
    go : (live : Bool) → (not live || list_all is_plain_entry x.entries) ≡ true → (not live || list_all is_plain_entry (adding line x.entries)) ≡ true
    go true all = adding-plain line x.entries h all
    go false all = refl

group-plain : (n : ℕ) (pairs : List (ℕ × List Entry)) → list_all (λ (group : ℕ × List Entry). list_all is_plain_entry group.1) pairs ≡ true → list_all is_plain_entry (unwrap_or (at_key pairs n) []) ≡ true
group-plain n [] all = refl
group-plain n (e ∷ es) all = go (e.0 == n) (group-plain n es parts.1)
  where
    parts : (list_all is_plain_entry e.1 ≡ true) × (list_all (λ (group : ℕ × List Entry). list_all is_plain_entry group.1) es ≡ true)
    parts = and_parts (list_all is_plain_entry e.1) (list_all (λ (group : ℕ × List Entry). list_all is_plain_entry group.1) es) all

    go : (b : Bool) → list_all is_plain_entry (unwrap_or (at_key es n) []) ≡ true → list_all is_plain_entry (unwrap_or (if b then Some e.1 else at_key es n) []) ≡ true
    go true ih = parts.0
    go false ih = ih

groups-plain : (n : ℕ) (line : Entry) (ns : Namespace) → is_plain_entry line ≡ true → are_plain_groups ns ≡ true → are_plain_groups (with_group n (adding line (acl_group ns n)) ns) ≡ true
groups-plain n line ns h all =
    rw (adding-put n line (acl_group ns n) ns.acl_groups)
    (all-put (λ (group : ℕ × List Entry). list_all is_plain_entry group.1) n (adding line (acl_group ns n)) ns.acl_groups (adding-plain line (acl_group ns n) h (group-plain n ns.acl_groups all)) all)

namespaces-plain : (change : Namespace → Namespace) → ((ns : Namespace) → are_plain_groups ns ≡ true → are_plain_groups (change ns) ≡ true) → (name : Text) (list : List Namespace) → list_all are_plain_groups list ≡ true → list_all are_plain_groups (in_namespace name change list) ≡ true
namespaces-plain change h name [] all = rw (h (empty_namespace name) refl) refl
namespaces-plain change h name (ns ∷ rest) all = go (texts_equal ns.name name) (namespaces-plain change h name rest parts.1)
  where
    parts : (are_plain_groups ns ≡ true) × (list_all are_plain_groups rest ≡ true)
    parts = and_parts (are_plain_groups ns) (list_all are_plain_groups rest) all

    go : (b : Bool) → list_all are_plain_groups (in_namespace name change rest) ≡ true → list_all are_plain_groups (if b then change ns ∷ rest else ns ∷ in_namespace name change rest) ≡ true
    go true ih = and_from (are_plain_groups (change ns)) (list_all are_plain_groups rest) (h ns parts.0) parts.1
    go false ih = and_from (are_plain_groups ns) (list_all are_plain_groups (in_namespace name change rest)) parts.0 ih

-- Plain policies

-- all domains that are live and all ACL groups are plain
pub record Plain (p : Policy) : Type 0 where
  pub domains : list_all is_plain_domain p.domains ≡ true
  pub groups : list_all are_plain_groups p.namespaces ≡ true

pub plain-of : (p : Policy) → is_plain p ≡ true → Plain p
unfolding is_plain
plain-of p h = let parts = and_parts (list_all is_plain_domain p.domains) (list_all are_plain_groups p.namespaces) h in record { domains = parts.0; groups = parts.1 }

pub is_plain-of : (p : Policy) → Plain p → is_plain p ≡ true
unfolding is_plain
is_plain-of p h = and_from (list_all is_plain_domain p.domains) (list_all are_plain_groups p.namespaces) h.domains h.groups

-- What a clean step changes: what a quiet line does, or it adds a learned line to a domain, or it
-- makes a domain without entries
pub data Cleanly (step : Step) (p q : Policy) : Type 0 where
  Quiet : Quietly p q → Cleanly step p q
  Learned : (d : ℕ) → (x : Domain) → (entry : Entry) → (learn_is : step ≡ Step.Learn d entry) → (there : domain_at p d ≡ Some x) → (is : q ≡ with_domain p d (record x { entries = adding entry x.entries })) → Cleanly step p q
  Made : (new : Domain) → (empty : new.entries ≡ []) → (is : q ≡ record p { domains = p.domains ++ new ∷ [] }) → Cleanly step p q

-- a line that is learned is plain
abbrev pub LearnsPlain : Step → Type 0
LearnsPlain (Step.Learn d entry) = is_plain_entry entry ≡ true
LearnsPlain step = Unit {0}

own-plain : (p : Policy) (d : ℕ) (x : Domain) (entry : Entry) → domain_at p d ≡ Some x → is_plain_entry entry ≡ true → Plain p → Plain (with_domain p d (record x { entries = adding entry x.entries }))
own-plain p d x entry there h plain =
    record { domains = all-changed is_plain_domain d (record x { entries = adding entry x.entries }) p.domains (domain-plain entry x h (all-get is_plain_domain p.domains d x plain.domains there)) plain.domains; groups = plain.groups }

quietly-plain : (p q : Policy) → Quietly p q → Plain p → Plain q
quietly-plain p q (Quietly.Others domains namespaces) plain = record { domains = rw domains plain.domains; groups = rw namespaces plain.groups }
quietly-plain p q (Quietly.Own d x entry there quiet is) plain = rw is (own-plain p d x entry there (quiet-plain entry quiet) plain)
quietly-plain p q (Quietly.Acl line quiet is) plain =
    rw is
    (record {
      domains = plain.domains;
      groups = namespaces-plain (λ ns. with_group line.group (adding line.entry (acl_group ns line.group)) ns) (λ ns. groups-plain line.group line.entry ns (quiet-plain line.entry quiet)) line.namespace p.namespaces plain.groups;
    })

made-plain : (new : Domain) → new.entries ≡ [] → is_plain_domain new ≡ true
made-plain new empty = rw empty (or-true (not new.live))

pub cleanly-plain : (step : Step) (p q : Policy) → Cleanly step p q → LearnsPlain step → Plain p → Plain q
cleanly-plain step p q (Cleanly.Quiet quiet) learns plain = quietly-plain p q quiet plain
cleanly-plain step p q (Cleanly.Learned d x entry learn_is there is) learns plain = rw is (own-plain p d x entry there (subst LearnsPlain learn_is learns) plain)
cleanly-plain step p q (Cleanly.Made new empty is) learns plain = rw is (record { domains = all-push is_plain_domain p.domains new plain.domains (made-plain new empty); groups = plain.groups })
