-- The entries of an ACL group: a group without entries isn't in the map.
use Rattle.std.proofs.Common.{◌≡◌, ℕ, zero, suc, ◌+◌, ◌<◌, ◌^◌, arith, subst, length, get_or, Bool, true, false, List, [], ◌∷◌, refl, sym, ap, ◌∙◌}
use Rattle.std.specs.Prelude.{Option, Some, None, if◌then◌else◌, unwrap_or, bit_or, slice_get}
use Rattle.std.specs.List.{find, position_from}
use Rattle.tm_word.specs.Prelude.{Text, texts_equal}
use Rattle.tm_rules.specs.Types.{Entry, Namespace}
use Rattle.tm_rules.specs.Prelude.{IsShort, acl_group, adding, at_key, deleting, empty_namespace, has_part, put_group, put_key, remove_key, same_line}
use Rattle.tm_change_namespaces.specs.Named.{named}
use Rattle.tm_change_namespaces.proofs.Places.{none_found}
use Rattle.tm_change_namespaces.specs.AclGroups.{AreShort, Rising}
use Rattle.tm_change_namespaces.proofs.MapLaws.{each_put, each_without, each_at, put_twice, without_none, without_put}

-- entries that are there are put in their place
pub put_some : (n : ℕ) (entries : List Entry) (groups : List (ℕ × List Entry)) → (entries ≡ [] → ⊥) → put_key n entries groups ≡ put_group n entries groups
put_some n [] groups some = absurd (some refl)
put_some n (e ∷ es) groups some = refl

-- a list that a line was added to has an entry
pub added_some : (line : Entry) (entries : List Entry) → adding line entries ≡ [] → ⊥
unfolding adding
added_some line [] e = cc
added_some line (x ∷ xs) e = go (same_line x line) e
  where
    go : (b : Bool) → (if b then record x { perms = record { bits = bit_or x.perms.bits line.perms.bits } } ∷ xs else x ∷ adding line xs) ≡ [] → ⊥
    go true e = cc
    go false e = cc

-- the entries of a group with a line more
pub group_with : (n : ℕ) (line : Entry) (entries made : List Entry) (o : Option (List Entry)) (groups after : List (ℕ × List Entry)) → after ≡ put_key n made groups → made ≡ adding line entries → entries ≡ unwrap_or o []
    → after ≡ put_group n (adding line (unwrap_or o [])) groups
group_with n line entries made o groups after is added from =
    is ∙ ap (λ (t : List Entry). put_key n t groups) added ∙ put_some n (adding line entries) groups (added_some line entries) ∙ ap (λ (t : List Entry). put_group n (adding line t) groups) from

-- other entries of a group that is there, in which a placeholder stood
pub group_set : (n : ℕ) (empty old entries : List Entry) (groups : List (ℕ × List Entry)) → Rising groups → at_key groups n ≡ Some old → put_group n entries (put_key n empty groups) ≡ put_group n entries groups
group_set n empty old [] groups rises there = without_put n empty old groups rises there
group_set n empty old (e ∷ es) groups rises there = put_twice n empty (e ∷ es) groups

-- a line takes nothing out of a group that isn't there
pub group_none : (n : ℕ) (line : Entry) (o : Option (List Entry)) (groups : List (ℕ × List Entry)) → at_key groups n ≡ o → o ≡ None → groups ≡ put_group n (deleting line (unwrap_or o [])) groups
unfolding deleting
group_none n line None groups e h = sym (without_none n groups e)
group_none n line (Some x) groups e h = absurd cc

pub none_left : (line : Entry) (o : Option (List Entry)) → o ≡ None → unwrap_or o [] ≡ deleting line (unwrap_or o [])
unfolding deleting
none_left line None h = refl
none_left line (Some x) h = absurd cc

-- where something of a line is, the namespace has a place
pub part_somewhere : (n : ℕ) (line : Entry) (name : Text) (spaces : List Namespace) → position_from (λ (ns : Namespace). texts_equal ns.name name) 0 spaces ≡ None → has_part line (acl_group (named name spaces) n) ≡ true → ⊥
unfolding has_part
part_somewhere n line name spaces e h =
    let none : find (λ (ns : Namespace). texts_equal ns.name name) spaces ≡ None = none_found (λ (ns : Namespace). texts_equal ns.name name) 0 spaces e in
    let is : has_part line (acl_group (named name spaces) n) ≡ false = ap (λ (o : Option Namespace). has_part line (acl_group (unwrap_or o (empty_namespace name)) n)) none in
    let both : true ≡ false = sym h ∙ is in
    cc

-- the element at the first place that passes is what is found
found-at : {A : Type 0} (test : A → Bool) (d : A) (i : ℕ) (xs : List A) (k : ℕ) → position_from test i xs ≡ Some k → (j : ℕ) × (k ≡ i + j) × (slice_get xs j ≡ Some (unwrap_or (find test xs) d))
found-at test d i [] k e = absurd cc
found-at test d i (x ∷ xs) k e = go (found-at test d (i + 1) xs k) (test x) e
  where
    go : (position_from test (i + 1) xs ≡ Some k → (j : ℕ) × (k ≡ i + 1 + j) × (slice_get xs j ≡ Some (unwrap_or (find test xs) d))) → (b : Bool) → (if b then Some i else position_from test (i + 1) xs) ≡ Some k
        → (j : ℕ) × (k ≡ i + j) × (slice_get (x ∷ xs) j ≡ Some (unwrap_or (if b then Some x else find test xs) d))
    go ih true e = let same : i ≡ k = cc in (0, omega (arith, same), refl)
    go ih false e =
        let next = ih e in
        let place : k ≡ i + 1 + next.0 = next.1 in
        let at : k ≡ i + suc next.0 = omega (arith, place) in
        (suc next.0, at, next.2)

-- at its place stands the namespace of that name
pub named_there : (name : Text) (spaces : List Namespace) (k : ℕ) → position_from (λ (ns : Namespace). texts_equal ns.name name) 0 spaces ≡ Some k → slice_get spaces k ≡ Some (named name spaces)
named_there name spaces k e =
    let found = found-at (λ (ns : Namespace). texts_equal ns.name name) (empty_namespace name) 0 spaces k e in
    let place : k ≡ 0 + found.0 = found.1 in
    let same : k ≡ found.0 = omega (arith, place) in
    ap (slice_get spaces) same ∙ found.2

-- what stands there is the namespace of that name
pub named_at : (name : Text) (spaces : List Namespace) (k : ℕ) (ns : Namespace) → position_from (λ (ns : Namespace). texts_equal ns.name name) 0 spaces ≡ Some k → slice_get spaces k ≡ Some ns → named name spaces ≡ ns
named_at name spaces k ns e h = let there : Some (named name spaces) ≡ Some ns = sym (named_there name spaces k e) ∙ h in cc

pub at_place : (xs : List Namespace) (k : ℕ) (x : Namespace) → k < length xs → x ≡ get_or xs k x → slice_get xs k ≡ Some x
at_place [] k x less e = absurd (omega (arith, less))
at_place (y ∷ ys) zero x less e = ap Some (sym e)
at_place (y ∷ ys) (suc k) x less e = at_place ys k x (omega (arith, less)) e

pub got : (xs : List Namespace) (k : ℕ) (x d : Namespace) → slice_get xs k ≡ Some x → get_or xs k d ≡ x
got [] k x d e = absurd cc
got (y ∷ ys) zero x d e = cc
got (y ∷ ys) (suc k) x d e = got ys k x d e

-- no entries are short entries
pub none_short : (entries : List Entry) → entries ≡ [] → IsShort entries
none_short entries e = subst (λ (t : List Entry). IsShort t) (sym e) below
  where
    below : 0 < 2 ^ 32
    below = omega arith

-- a group put among them
pub short_put : (n : ℕ) (entries : List Entry) (groups after : List (ℕ × List Entry)) → after ≡ put_key n entries groups → IsShort entries → AreShort groups → AreShort after
short_put n entries groups after is short each = subst AreShort (sym is) (each_put (λ (t : List Entry). IsShort t) n entries groups short each)

-- a group less among them
pub short_without : (n : ℕ) (groups after : List (ℕ × List Entry)) → after ≡ remove_key n groups → AreShort groups → AreShort after
short_without n groups after is each = subst AreShort (sym is) (each_without (λ (t : List Entry). IsShort t) n groups each)

-- a group that is put or taken out among them
pub short_set : (n : ℕ) (entries : List Entry) (groups after : List (ℕ × List Entry)) → after ≡ put_group n entries groups → IsShort entries → AreShort groups → AreShort after
short_set n [] groups after is short each = short_without n groups after is each
short_set n (e ∷ es) groups after is short each = short_put n (e ∷ es) groups after is short each

-- one of them
pub short_at : (n : ℕ) (entries : List Entry) (groups : List (ℕ × List Entry)) → Some entries ≡ at_key groups n → AreShort groups → IsShort entries
short_at n entries groups e each = each_at (λ (t : List Entry). IsShort t) n entries groups (sym e) each
