-- What grants a request grants it later: the search finds something where it found something
-- before.
use Rattle.std.proofs.Common.{◌≡◌, ℕ, zero, suc, List, [], ◌∷◌, ◌++◌, Bool, true, false, refl, sym, ◌∙◌}
use Rattle.std.specs.Prelude.{Option, Some, None, ◌&&◌, ◌||◌, slice_get, is_some, IsSome, unwrap_or, option_map, flat_map}
use Rattle.std.specs.Option.{option_or}
use Rattle.std.specs.List.{list_any}
use Rattle.tm_rules.specs.Types.{Domain, Entry, EntryPlace, Groups, NamePlace, Namespace, Proc, Profile, Request}
use Rattle.tm_rules.specs.Prelude.{Granting, acl_group, aggregated, args_grant, at_key, entries_of, first, first_of, first_of_all, granting, grants, has_permission, holds, placed, searched, when}
use Rattle.tm_legal.specs.Prelude.{EntriesGrow, NoFewer}

-- tests

or-left : (a b : Bool) → a ≡ true → (a || b) ≡ true
or-left true b h = refl
or-left false b h = absurd cc

or-right : (a b : Bool) → b ≡ true → (a || b) ≡ true
or-right true b h = refl
or-right false b h = h

or-map : (a b c d : Bool) → (a ≡ true → c ≡ true) → (b ≡ true → d ≡ true) → (a || b) ≡ true → (c || d) ≡ true
or-map true b c d f g h = or-left c d (f refl)
or-map false b c d f g h = or-right c d (g h)

when-test : {A : Type 0} (b c : Bool) (o : Option A) → is_some (when (b && c) o) ≡ true → b ≡ true
when-test true c o h = refl
when-test false c o h = absurd cc

-- the first of these, as a test

some-append : {A B : Type 0} (f : A → Option B) (xs ys : List A) → is_some (first_of_all f (xs ++ ys)) ≡ (is_some (first_of_all f xs) || is_some (first_of_all f ys))
some-append f [] ys = refl
some-append {A} {B} f (x ∷ xs) ys = go (f x) (some-append f xs ys)
  where
    go : (o : Option B) → is_some (first_of_all f (xs ++ ys)) ≡ (is_some (first_of_all f xs) || is_some (first_of_all f ys)) → is_some (option_or o (first_of_all f (xs ++ ys))) ≡ (is_some (option_or o (first_of_all f xs)) || is_some (first_of_all f ys))
    go None ih = ih
    go (Some y) ih = refl

module _ (groups : Groups) (process : Proc) (request : Request) where
  -- some entry grants
  abbrev pub has_grant : List Entry → Bool
  has_grant entries = list_any (λ e. is_some (grants groups process request e)) entries

  some-placed : (place : ℕ → EntryPlace) (n : ℕ) (entries : List Entry) → is_some (first_of groups process request (placed place n entries)) ≡ has_grant entries
  some-placed place n [] = refl
  some-placed place n (e ∷ es) = go (grants groups process request e) (some-placed place (suc n) es)
    where
      go : (o : Option NamePlace) → is_some (first_of groups process request (placed place (suc n) es)) ≡ has_grant es → is_some (option_or (option_map (λ name. let g : Granting = record { place = place n; entry = e; name = name } in g) o) (first_of groups process request (placed place (suc n) es))) ≡ (is_some o || has_grant es)
      go None ih = ih
      go (Some name) ih = refl

  -- some entry of these ACL groups grants
  abbrev pub group_grant : List (ℕ × List Entry) → List (ℕ × Unit {0}) → Bool
  group_grant acl members = list_any (λ (member : ℕ × Unit {0}). has_grant (unwrap_or (at_key acl member.0) [])) members

  some-groups : (acl : List (ℕ × List Entry)) (members : List (ℕ × Unit {0})) → is_some (first_of groups process request (flat_map (λ (member : ℕ × Unit {0}). placed (EntryPlace.Acl member.0) 0 (unwrap_or (at_key acl member.0) [])) members)) ≡ group_grant acl members
  some-groups acl [] = refl
  some-groups acl (m ∷ ms) =
      some-append (granting groups process request) (placed (EntryPlace.Acl m.0) 0 (unwrap_or (at_key acl m.0) [])) (flat_map (λ (member : ℕ × Unit {0}). placed (EntryPlace.Acl member.0) 0 (unwrap_or (at_key acl member.0) [])) ms)
      ∙ rw (some-placed (EntryPlace.Acl m.0) 0 (unwrap_or (at_key acl m.0) []), some-groups acl ms) refl

  -- entries that grow

  entry-grows : (x y : Entry) → y.args ≡ x.args → y.cond ≡ x.cond → NoFewer x.perms.bits y.perms.bits → is_some (grants groups process request x) ≡ true → is_some (grants groups process request y) ≡ true
  unfolding grants
  entry-grows x y args cond more h =
      let had : has_permission x.perms.bits request.perm ≡ true = when-test (has_permission x.perms.bits request.perm) (holds x.cond groups process request) (args_grant groups x.args request.args) h in
      rw (args, cond, more request.perm had) (rw had at h)

  grant-grows : (xs ys : List Entry) → EntriesGrow xs ys → has_grant xs ≡ true → has_grant ys ≡ true
  grant-grows [] ys grow h = absurd cc
  grant-grows (x ∷ xs) [] grow h = absurd grow
  grant-grows (x ∷ xs) (y ∷ ys) grow h =
      or-map (is_some (grants groups process request x)) (has_grant xs) (is_some (grants groups process request y)) (has_grant ys) (entry-grows x y grow.0 grow.1 grow.2) (grant-grows xs ys grow.3) h

  groups-grow : (acl more : List (ℕ × List Entry)) (members : List (ℕ × Unit {0})) → ((n : ℕ) → EntriesGrow (unwrap_or (at_key acl n) []) (unwrap_or (at_key more n) [])) → group_grant acl members ≡ true → group_grant more members ≡ true
  groups-grow acl more [] grow h = absurd cc
  groups-grow acl more (m ∷ ms) grow h =
      or-map (has_grant (unwrap_or (at_key acl m.0) [])) (group_grant acl ms) (has_grant (unwrap_or (at_key more m.0) [])) (group_grant more ms) (grant-grows (unwrap_or (at_key acl m.0) []) (unwrap_or (at_key more m.0) []) (grow m.0)) (groups-grow acl more ms grow) h

  own-grants : (entries : List Entry) (n : ℕ) (entry : Entry) → slice_get entries n ≡ Some entry → IsSome (grants groups process request entry) → has_grant entries ≡ true
  own-grants [] n entry at h = absurd cc
  own-grants (e ∷ es) zero entry at h = or-left (is_some (grants groups process request e)) (has_grant es) (let same : e ≡ entry = cc in rw same h)
  own-grants (e ∷ es) (suc n) entry at h = or-right (is_some (grants groups process request e)) (has_grant es) (own-grants es n entry at h)

module _ (ns : Namespace) (process : Proc) (request : Request) where
  some-first : (domain : Domain) → is_some (first ns domain process request) ≡ (has_grant ns.groups process (searched ns request) domain.entries || group_grant ns.groups process (searched ns request) ns.acl_groups domain.groups)
  unfolding first entries_of
  some-first domain =
      some-append (granting ns.groups process (searched ns request)) (placed EntryPlace.Own 0 domain.entries) (flat_map (λ (member : ℕ × Unit {0}). placed (EntryPlace.Acl member.0) 0 (unwrap_or (at_key ns.acl_groups member.0) [])) domain.groups)
      ∙ rw (some-placed ns.groups process (searched ns request) EntryPlace.Own 0 domain.entries, some-groups ns.groups process (searched ns request) ns.acl_groups domain.groups) refl

  -- an own entry that grants is found, or one before it
  pub first-own : (domain : Domain) (n : ℕ) (entry : Entry) → slice_get domain.entries n ≡ Some entry → IsSome (grants ns.groups process (searched ns request) entry) → is_some (first ns domain process request) ≡ true
  first-own domain n entry at h =
      some-first domain ∙ or-left (has_grant ns.groups process (searched ns request) domain.entries) (group_grant ns.groups process (searched ns request) ns.acl_groups domain.groups) (own-grants ns.groups process (searched ns request) domain.entries n entry at h)

-- the namespace later
abbrev pub grown : Namespace → List (ℕ × List Entry) → List (ℕ × Profile) → Namespace
grown ns acl profiles = record ns { acl_groups = acl; profiles = profiles }

-- profiles grant nothing
pub first-switched : (ns : Namespace) (acl : List (ℕ × List Entry)) (profiles : List (ℕ × Profile)) (domain : Domain) (process : Proc) (request : Request) → first (grown ns acl profiles) domain process request ≡ first (record ns { acl_groups = acl }) domain process request
unfolding first entries_of aggregated
first-switched ns acl profiles domain process request = refl

pub first-later : (ns : Namespace) (acl : List (ℕ × List Entry)) (profiles : List (ℕ × Profile)) (domain : Domain) (entries : List Entry) (process : Proc) (request : Request)
    → EntriesGrow domain.entries entries → ((n : ℕ) → EntriesGrow (acl_group ns n) (unwrap_or (at_key acl n) [])) → is_some (first ns domain process request) ≡ true → is_some (first (grown ns acl profiles) (record domain { entries = entries }) process request) ≡ true
unfolding aggregated
first-later ns acl profiles domain entries process request own more h =
    let r : Request = searched ns request in
    let had : (has_grant ns.groups process r domain.entries || group_grant ns.groups process r ns.acl_groups domain.groups) ≡ true = sym (some-first ns process request domain) ∙ h in
    some-first (grown ns acl profiles) process request (record domain { entries = entries })
    ∙ or-map (has_grant ns.groups process r domain.entries) (group_grant ns.groups process r ns.acl_groups domain.groups) (has_grant ns.groups process r entries) (group_grant ns.groups process r acl domain.groups)
    (grant-grows ns.groups process r domain.entries entries own) (groups-grow ns.groups process r ns.acl_groups acl domain.groups more) had
