-- What an execute finds in a list of entries, before and after a line is added.
use Rattle.std.proofs.Common.{◌≡◌, ◌<◌, max, arith, ℕ, suc, List, [], ◌∷◌, ◌++◌, Bool, true, false, true≢false, refl, sym, ap, ◌∙◌, subst}
use Rattle.std.specs.Prelude.{Option, Some, None, ◌&&◌, ◌||◌, ◌==◌, if◌then◌else◌, option_map, bit_or, bit_and, flat_map, unwrap_or}
use Rattle.std.specs.List.{list_all}
use Rattle.std.specs.Option.{option_or}
use Rattle.std.specs.Int.{bit_at}
use Rattle.std.proofs.lemmas.Nat.Bits.{bit_at_or, bit_at-lt, bit_at_lowest, bit_at-pow_same}
use Rattle.std.proofs.lemmas.Nat.{and_mask}
use Rattle.std.proofs.lemmas.Bool.{eqb-true, eq-eqb, and_parts, and_from}
use Rattle.tm_rules.specs.Types.{Domain, Entry, EntryPlace, Groups, NamePlace, Namespace, Proc, Request}
use Rattle.tm_rules.specs.Prelude.{Granting, Numbers, acl_group, adding, args_equal, at_key, conds_equal, entries_of, first_of, grants, has_line, has_permission, is_plain_entry, learned_line, placed, same_line}
use Rattle.tm_rules.proofs.EqualityLaws.{same_args, same_conds}
use Rattle.tm_legal.specs.Prelude.{Execute, FoundLine, IsLearnedLine, execute_line, line_found}
use Rattle.tm_rerun_laws.proofs.Executes.{IsExecute, look_of, plain-same, Blind, joined, blind-line, blind-joined, own-look, own-has, shares}

-- what is kept of the entry at a place
abbrev pub line_at : EntryPlace → Entry → NamePlace → FoundLine
line_at place entry name = record { place = place; args = entry.args; cond = entry.cond; name = name }

-- what a look at each entry finds first
abbrev pub seen : (Entry → Option NamePlace) → List (EntryPlace × Entry) → Option FoundLine
seen look [] = None
seen look (pair ∷ pairs) = option_or (option_map (line_at pair.0 pair.1) (look pair.1)) (seen look pairs)

-- a search is such a look
pub first-seen : (groups : Groups) (p : Proc) (r : Request) (pairs : List (EntryPlace × Entry)) → option_map line_found (first_of groups p r pairs) ≡ seen (grants groups p r) pairs
first-seen groups p r [] = refl
first-seen groups p r (pair ∷ pairs) = go (grants groups p r pair.1) (first-seen groups p r pairs)
  where
    go : (o : Option NamePlace) → option_map line_found (first_of groups p r pairs) ≡ seen (grants groups p r) pairs
        → option_map line_found (option_or (option_map (λ name. let g : Granting = record { place = pair.0; entry = pair.1; name = name } in g) o) (first_of groups p r pairs)) ≡ option_or (option_map (line_at pair.0 pair.1) o) (seen (grants groups p r) pairs)
    go None ih = ih
    go (Some name) ih = refl

abbrev pub plain_pair : EntryPlace × Entry → Bool
plain_pair pair = is_plain_entry pair.1

-- among plain entries all such requests find the same
pub plain-seen : (groups : Groups) (x : Execute) (p : Proc) (r : Request) → IsExecute x r → (pairs : List (EntryPlace × Entry)) → list_all plain_pair pairs ≡ true → seen (grants groups p r) pairs ≡ seen (look_of groups x) pairs
plain-seen groups x p r is [] plain = refl
plain-seen groups x p r is (pair ∷ pairs) plain =
    let parts = and_parts (is_plain_entry pair.1) (list_all plain_pair pairs) plain in
    rw (plain-same groups x p r is pair.1 parts.0, plain-seen groups x p r is pairs parts.1) refl

pub plain-placed : (place : ℕ → EntryPlace) (n : ℕ) (entries : List Entry) → list_all is_plain_entry entries ≡ true → list_all plain_pair (placed place n entries) ≡ true
plain-placed place n [] plain = refl
plain-placed place n (e ∷ es) plain =
    let parts = and_parts (is_plain_entry e) (list_all is_plain_entry es) plain in
    and_from (is_plain_entry e) (list_all plain_pair (placed place (suc n) es)) parts.0 (plain-placed place (suc n) es parts.1)

pub plain-append : (xs ys : List (EntryPlace × Entry)) → list_all plain_pair xs ≡ true → list_all plain_pair ys ≡ true → list_all plain_pair (xs ++ ys) ≡ true
plain-append [] ys h k = k
plain-append (x ∷ xs) ys h k =
    let parts = and_parts (plain_pair x) (list_all plain_pair xs) h in
    and_from (plain_pair x) (list_all plain_pair (xs ++ ys)) parts.0 (plain-append xs ys parts.1 k)

pub seen-append : (look : Entry → Option NamePlace) (xs ys : List (EntryPlace × Entry)) → seen look (xs ++ ys) ≡ option_or (seen look xs) (seen look ys)
seen-append look [] ys = refl
seen-append look (pair ∷ xs) ys = go (option_map (line_at pair.0 pair.1) (look pair.1)) (seen-append look xs ys)
  where
    go : (o : Option FoundLine) → seen look (xs ++ ys) ≡ option_or (seen look xs) (seen look ys) → option_or o (seen look (xs ++ ys)) ≡ option_or (option_or o (seen look xs)) (seen look ys)
    go None ih = ih
    go (Some found) ih = refl

-- A line that it doesn't see

pub seen-blind : (groups : Groups) (x : Execute) (line : Entry) → Blind groups x line → (place : ℕ → EntryPlace) (n : ℕ) (entries : List Entry) → seen (look_of groups x) (placed place n (adding line entries)) ≡ seen (look_of groups x) (placed place n entries)
unfolding adding
seen-blind groups x line blind place n [] = rw (blind-line groups x line blind) refl
seen-blind groups x line blind place n (e ∷ es) = go (same_line e line) refl (seen-blind groups x line blind place (suc n) es)
  where
    go : (b : Bool) → same_line e line ≡ b → seen (look_of groups x) (placed place (suc n) (adding line es)) ≡ seen (look_of groups x) (placed place (suc n) es)
        → seen (look_of groups x) (placed place n (if b then joined e line ∷ es else e ∷ adding line es)) ≡ seen (look_of groups x) (placed place n (e ∷ es))
    go true same ih = rw (blind-joined groups x line blind e same) refl
    go false other ih = rw ih refl

-- The line that is learned for it

-- at a place of this kind, with the line's arguments and condition
pub record IsLineAt (place : ℕ → EntryPlace) (line : Entry) (found : FoundLine) : Type 0 where
  pub own : (n : ℕ) × (found.place ≡ place n)
  pub args : found.args ≡ line.args
  pub cond : found.cond ≡ line.cond

line-has : (x : Execute) → bit_at (execute_line x).perms.bits 0 ≡ 1
unfolding learned_line
line-has x = bit_at-pow_same 0

line-bits : (x : Execute) → (execute_line x).perms.bits ≡ 1
unfolding learned_line
line-bits x = refl

line-own : (groups : Groups) (x : Execute) → look_of groups x (execute_line x) ≡ Some NamePlace.Own
line-own groups x = own-look groups x (execute_line x).perms.bits (eq-eqb (bit_at (execute_line x).perms.bits 0) 1 (line-has x))

one_of : (x y : ℕ) → x < 2 → y ≡ 1 → max x y ≡ 1
one_of x y lt e = omega arith

joined-own : (groups : Groups) (x : Execute) (e : Entry) → same_line e (execute_line x) ≡ true → look_of groups x (joined e (execute_line x)) ≡ Some NamePlace.Own
joined-own groups x e same =
    let s = shares e (execute_line x) same in
    let bits : ℕ = bit_or e.perms.bits (execute_line x).perms.bits in
    let one : bit_at bits 0 ≡ 1 = bit_at_or e.perms.bits (execute_line x).perms.bits 0 ∙ one_of (bit_at e.perms.bits 0) (bit_at (execute_line x).perms.bits 0) (bit_at-lt e.perms.bits 0) (line-has x) in
    rw (s.0, s.1) (own-look groups x bits (eq-eqb (bit_at bits 0) 1 one))

or-none : (o p : Option FoundLine) → option_or o p ≡ None → (o ≡ None) × (p ≡ None)
or-none None p h = (refl, h)
or-none (Some f) p h = absurd cc

-- where nothing was found, the added line is found
pub seen-own : (groups : Groups) (x : Execute) (place : ℕ → EntryPlace) (n : ℕ) (entries : List Entry) → seen (look_of groups x) (placed place n entries) ≡ None
    → (found : FoundLine) × (seen (look_of groups x) (placed place n (adding (execute_line x) entries)) ≡ Some found) × IsLineAt place (execute_line x) found
unfolding adding
seen-own groups x place n [] none = (line_at (place n) (execute_line x) NamePlace.Own, rw (line-own groups x) refl, record { own = (n, refl); args = refl; cond = refl })
seen-own groups x place n (e ∷ es) none =
    let parts = or-none (option_map (line_at (place n) e) (look_of groups x e)) (seen (look_of groups x) (placed place (suc n) es)) none in
    go (same_line e (execute_line x)) refl parts.0 (seen-own groups x place (suc n) es parts.1)
  where
    go : (b : Bool) → same_line e (execute_line x) ≡ b → option_map (line_at (place n) e) (look_of groups x e) ≡ None
        → ((found : FoundLine) × (seen (look_of groups x) (placed place (suc n) (adding (execute_line x) es)) ≡ Some found) × IsLineAt place (execute_line x) found)
        → (found : FoundLine) × (seen (look_of groups x) (placed place n (if b then joined e (execute_line x) ∷ es else e ∷ adding (execute_line x) es)) ≡ Some found) × IsLineAt place (execute_line x) found
    go true same out ih =
        let s = shares e (execute_line x) same in
        (line_at (place n) e NamePlace.Own, rw (joined-own groups x e same) refl, record { own = (n, refl); args = s.0; cond = s.1 })
    go false other out ih = (ih.0, rw out ih.1, ih.2)

-- where the line was found, the list has it
bit-and : (bits : ℕ) → bit_at bits 0 ≡ 1 → bit_and bits 1 ≡ 1
bit-and bits h = and_mask bits 1 ∙ sym (bit_at_lowest bits) ∙ h

is-own : (groups : Groups) (x : Execute) (e : Entry) (name : NamePlace) → look_of groups x e ≡ Some name → e.args ≡ (execute_line x).args → e.cond ≡ (execute_line x).cond → (same_line e (execute_line x) && bit_and e.perms.bits (execute_line x).perms.bits == (execute_line x).perms.bits) ≡ true
is-own groups x e name found args cond =
    let line : Entry = execute_line x in
    let moved : look_of groups x (record line { perms = record { bits = e.perms.bits } }) ≡ Some name = rw (← args, ← cond) found in
    let has : has_permission e.perms.bits 0 ≡ true = own-has groups x e.perms.bits name moved in
    let bits : bit_and e.perms.bits line.perms.bits ≡ line.perms.bits = rw (line-bits x) (bit-and e.perms.bits (eqb-true (bit_at e.perms.bits 0) 1 has)) in
    and_from (same_line e line) (bit_and e.perms.bits line.perms.bits == line.perms.bits)
    (and_from (args_equal e.args line.args) (conds_equal e.cond line.cond) (subst (λ a. args_equal e.args a ≡ true) args (same_args.full e.args)) (subst (λ c. conds_equal e.cond c ≡ true) cond (same_conds.full e.cond)))
    (eq-eqb (bit_and e.perms.bits line.perms.bits) line.perms.bits bits)

pub seen-has : (groups : Groups) (x : Execute) (place : ℕ → EntryPlace) (n : ℕ) (entries : List Entry) (found : FoundLine) → seen (look_of groups x) (placed place n entries) ≡ Some found → found.args ≡ (execute_line x).args → found.cond ≡ (execute_line x).cond → has_line (execute_line x) entries ≡ true
unfolding has_line
seen-has groups x place n [] found is args cond = absurd cc
seen-has groups x place n (e ∷ es) found is args cond = go (look_of groups x e) refl is (λ h. seen-has groups x place (suc n) es found h args cond)
  where
    here : Bool
    here = same_line e (execute_line x) && bit_and e.perms.bits (execute_line x).perms.bits == (execute_line x).perms.bits

    or-left : (b c : Bool) → b ≡ true → (b || c) ≡ true
    or-left b c h = rw h refl

    or-right : (b c : Bool) → c ≡ true → (b || c) ≡ true
    or-right true c h = refl
    or-right false c h = h

    go : (o : Option NamePlace) → look_of groups x e ≡ o → option_or (option_map (line_at (place n) e) o) (seen (look_of groups x) (placed place (suc n) es)) ≡ Some found
        → (seen (look_of groups x) (placed place (suc n) es) ≡ Some found → has_line (execute_line x) es ≡ true) → (here || has_line (execute_line x) es) ≡ true
    go None e h ih = or-right here (has_line (execute_line x) es) (ih h)
    go (Some name) at h ih =
        let same : line_at (place n) e name ≡ found = cc in
        or-left here (has_line (execute_line x) es) (is-own groups x e name at (ap (λ (f : FoundLine). f.args) same ∙ args) (ap (λ (f : FoundLine). f.cond) same ∙ cond))

-- A domain's own entries, and those of its groups

-- in an ACL group
abbrev is_acl : EntryPlace → Bool
is_acl (EntryPlace.Own n) = false
is_acl (EntryPlace.Acl g n) = true

abbrev acl_pair : EntryPlace × Entry → Bool
acl_pair pair = is_acl pair.0

-- the entries of these groups
abbrev pub acl_pairs : Namespace → Numbers → List (EntryPlace × Entry)
acl_pairs ns members = flat_map (λ (member : ℕ × Unit {0}). placed (EntryPlace.Acl member.0) 0 (unwrap_or (at_key ns.acl_groups member.0) [])) members

acl-placed : (g n : ℕ) (entries : List Entry) (rest : List (EntryPlace × Entry)) → list_all acl_pair rest ≡ true → list_all acl_pair (placed (EntryPlace.Acl g) n entries ++ rest) ≡ true
acl-placed g n [] rest h = h
acl-placed g n (e ∷ es) rest h = acl-placed g (suc n) es rest h

acl-places : (ns : Namespace) (members : Numbers) → list_all acl_pair (acl_pairs ns members) ≡ true
acl-places ns [] = refl
acl-places ns (member ∷ members) = acl-placed member.0 0 (unwrap_or (at_key ns.acl_groups member.0) []) (acl_pairs ns members) (acl-places ns members)

acl-found : (look : Entry → Option NamePlace) (pairs : List (EntryPlace × Entry)) (found : FoundLine) → list_all acl_pair pairs ≡ true → seen look pairs ≡ Some found → is_acl found.place ≡ true
acl-found look [] found acl is = absurd cc
acl-found look (pair ∷ pairs) found acl is = go (look pair.1) is (λ h. acl-found look pairs found (and_parts (acl_pair pair) (list_all acl_pair pairs) acl).1 h)
  where
    go : (o : Option NamePlace) → option_or (option_map (line_at pair.0 pair.1) o) (seen look pairs) ≡ Some found → (seen look pairs ≡ Some found → is_acl found.place ≡ true) → is_acl found.place ≡ true
    go None h ih = ih h
    go (Some name) h ih = let same : line_at pair.0 pair.1 name ≡ found = cc in rw (← ap (λ (f : FoundLine). f.place) same) (and_parts (acl_pair pair) (list_all acl_pair pairs) acl).0

-- what a domain's entries come to
abbrev pub seen_in : Execute → Namespace → Domain → Option FoundLine
seen_in x ns domain = option_or (seen (look_of ns.groups x) (placed EntryPlace.Own 0 domain.entries)) (seen (look_of ns.groups x) (acl_pairs ns domain.groups))

pub entries-seen : (x : Execute) (ns : Namespace) (domain : Domain) → seen (look_of ns.groups x) (entries_of ns domain) ≡ seen_in x ns domain
unfolding entries_of
entries-seen x ns domain = seen-append (look_of ns.groups x) (placed EntryPlace.Own 0 domain.entries) (acl_pairs ns domain.groups)

-- a found learned line stands in the domain's own list
pub learned-has : (x : Execute) (ns : Namespace) (domain : Domain) (found : FoundLine) → seen_in x ns domain ≡ Some found → IsLearnedLine x found → has_line (execute_line x) domain.entries ≡ true
learned-has x ns domain found is learned = go (seen (look_of ns.groups x) (placed EntryPlace.Own 0 domain.entries)) refl is
  where
    acl : Option FoundLine
    acl = seen (look_of ns.groups x) (acl_pairs ns domain.groups)

    go : (o : Option FoundLine) → seen (look_of ns.groups x) (placed EntryPlace.Own 0 domain.entries) ≡ o → option_or o acl ≡ Some found → has_line (execute_line x) domain.entries ≡ true
    go (Some f) at h = seen-has ns.groups x EntryPlace.Own 0 domain.entries found (at ∙ h) learned.args learned.cond
    go None at h = absurd (true≢false (sym (acl-found (look_of ns.groups x) (acl_pairs ns domain.groups) found (acl-places ns domain.groups) h) ∙ ap is_acl learned.own.1))

-- where nothing was found, the added line is found
pub seen_in-own : (x : Execute) (ns : Namespace) (domain : Domain) → seen_in x ns domain ≡ None → (found : FoundLine) × (seen_in x ns (record domain { entries = adding (execute_line x) domain.entries }) ≡ Some found) × IsLearnedLine x found
seen_in-own x ns domain none =
    let parts = or-none (seen (look_of ns.groups x) (placed EntryPlace.Own 0 domain.entries)) (seen (look_of ns.groups x) (acl_pairs ns domain.groups)) none in
    let f = seen-own ns.groups x EntryPlace.Own 0 domain.entries parts.0 in
    (f.0, rw f.1 refl, record { own = f.2.own; args = f.2.args; cond = f.2.cond })

-- a line that it doesn't see, in the domain's own list
pub seen_in-blind : (x : Execute) (ns : Namespace) (domain : Domain) (line : Entry) → Blind ns.groups x line → seen_in x ns (record domain { entries = adding line domain.entries }) ≡ seen_in x ns domain
seen_in-blind x ns domain line blind = rw (seen-blind ns.groups x line blind EntryPlace.Own 0 domain.entries) refl

-- groups in which it sees the same
pub seen_in-groups : (x : Execute) (ns new : Namespace) (domain : Domain) → new.groups ≡ ns.groups → ((g : ℕ) → seen (look_of ns.groups x) (placed (EntryPlace.Acl g) 0 (acl_group new g)) ≡ seen (look_of ns.groups x) (placed (EntryPlace.Acl g) 0 (acl_group ns g))) → seen_in x new domain ≡ seen_in x ns domain
seen_in-groups x ns new domain groups each = rw groups (ap (option_or (seen (look_of ns.groups x) (placed EntryPlace.Own 0 domain.entries))) (all domain.groups))
  where
    all : (members : Numbers) → seen (look_of ns.groups x) (acl_pairs new members) ≡ seen (look_of ns.groups x) (acl_pairs ns members)
    all [] = refl
    all (member ∷ members) =
        seen-append (look_of ns.groups x) (placed (EntryPlace.Acl member.0) 0 (acl_group new member.0)) (acl_pairs new members)
        ∙ rw (each member.0, all members) refl
        ∙ sym (seen-append (look_of ns.groups x) (placed (EntryPlace.Acl member.0) 0 (acl_group ns member.0)) (acl_pairs ns members))
