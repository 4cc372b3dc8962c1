-- A search through one list after another.
use Rattle.std.proofs.Common.{◌≡◌, ℕ, zero, suc, ◌+◌, ◌<◌, ◌==◌, subst, length, drop, get_or, arith, Bool, true, false, List, [], ◌∷◌, ◌++◌, refl, sym, ap, ◌∙◌}
use Rattle.std.specs.Prelude.{Option, Some, None, option_map, unwrap_or, slice_get, if◌then◌else◌}
use Rattle.std.specs.Option.{option_or}
use Rattle.std.specs.List.{AllByRecursion, find}
use Rattle.tm_rules.specs.Types.{Entry, EntryPlace, Found}
use Rattle.tm_rules.specs.Prelude.{IsShort, at_key, first_of_all, found_of, granting, placed}
use Rattle.tm_policy.specs.Searching.{Asked, asked_request, found_in, acl_entries}

or-or : {B : Type 0} (x y z : Option B) → option_or x (option_or y z) ≡ option_or (option_or x y) z
or-or None y z = refl
or-or (Some x) y z = refl

-- the first of two lists, one after the other
first-append : {A B : Type 0} (f : A → Option B) (xs ys : List A) → first_of_all f (xs ++ ys) ≡ option_or (first_of_all f xs) (first_of_all f ys)
first-append f [] ys = refl
first-append f (x ∷ xs) ys = ap (option_or (f x)) (first-append f xs ys) ∙ or-or (f x) (first_of_all f xs) (first_of_all f ys)

map-or : {A B : Type 0} (f : A → B) (x y : Option A) → option_map f (option_or x y) ≡ option_or (option_map f x) (option_map f y)
map-or f None y = refl
map-or f (Some x) y = refl

-- what is found in the first list, else in the second
pub found-append : (asked : Asked) (xs ys : List (EntryPlace × Entry)) → found_in asked (xs ++ ys) ≡ option_or (found_in asked xs) (found_in asked ys)
found-append asked xs ys =
    ap (option_map found_of) (first-append (granting asked.groups asked.process (asked_request asked)) xs ys)
    ∙ map-or found_of (first_of_all (granting asked.groups asked.process (asked_request asked)) xs) (first_of_all (granting asked.groups asked.process (asked_request asked)) ys)

-- each group's list is short
pub short_group : (lists : List (ℕ × List Entry)) (group : ℕ) → AllByRecursion (λ (pair : ℕ × List Entry). IsShort pair.1) lists → (entries : List Entry) → at_key lists group ≡ Some entries → IsShort entries
short_group [] group short entries e = absurd cc
short_group (pair ∷ pairs) group short entries e = go (short_group pairs group short.1 entries) (pair.0 == group) refl e
  where
    go : (at_key pairs group ≡ Some entries → IsShort entries) → (b : Bool) → (pair.0 == group) ≡ b → (if b then Some pair.1 else at_key pairs group) ≡ Some entries → IsShort entries
    go ih true h e = subst IsShort (let same : pair.1 ≡ entries = cc in same) short.0
    go ih false h e = ih e

-- what is looked for and found has what each element has
pub each_found : {A : Type 0} (P : A → Type 0) (test : A → Bool) (xs : List A) (x : A) → AllByRecursion P xs → find test xs ≡ Some x → P x
each_found P test [] x each e = absurd cc
each_found P test (y ∷ ys) x each e = go (each_found P test ys x each.1) (test y) refl e
  where
    go : (find test ys ≡ Some x → P x) → (b : Bool) → test y ≡ b → (if b then Some y else find test ys) ≡ Some x → P x
    go ih true h e = subst P (let same : y ≡ x = cc in same) each.0
    go ih false h e = ih e

-- without ACL groups there is no entry of them
pub no_groups : (members : List (ℕ × Unit {0})) → acl_entries [] members ≡ []
no_groups [] = refl
no_groups (m ∷ ms) = no_groups ms

-- the groups from one on: that one's list, and then the others'
pub found_groups : (asked : Asked) (lists : List (ℕ × List Entry)) (member : ℕ × Unit {0}) (members : List (ℕ × Unit {0}))
    → found_in asked (acl_entries lists (member ∷ members))
    ≡ option_or (found_in asked (placed (EntryPlace.Acl member.0) 0 (unwrap_or (at_key lists member.0) []))) (found_in asked (acl_entries lists members))
found_groups asked lists member members =
    found-append asked (placed (EntryPlace.Acl member.0) 0 (unwrap_or (at_key lists member.0) [])) (acl_entries lists members)

-- the same at a place of the members
pub groups_from : (asked : Asked) (lists : List (ℕ × List Entry)) (members : List (ℕ × Unit {0})) (k : ℕ) (d : ℕ × Unit {0}) → k < length members
    → found_in asked (acl_entries lists (drop k members))
    ≡ option_or (found_in asked (placed (EntryPlace.Acl (get_or members k d).0) 0 (unwrap_or (at_key lists (get_or members k d).0) []))) (found_in asked (acl_entries lists (drop (suc k) members)))
groups_from asked lists [] k d less = absurd (omega (arith, less))
groups_from asked lists (m ∷ ms) zero d less = found_groups asked lists m ms
groups_from asked lists (m ∷ ms) (suc k) d less = groups_from asked lists ms k d (omega (arith, less))

found_first : (x y : Option Found) (v : Found) → x ≡ Some v → option_or x y ≡ Some v
found_first x y v e = rw e refl

found_next : (x y : Option Found) → x ≡ None → option_or x y ≡ y
found_next x y e = rw e refl

-- what is found in the group at this place is what is found
pub found_here : (asked : Asked) (lists : List (ℕ × List Entry)) (members : List (ℕ × Unit {0})) (k : ℕ) (d : ℕ × Unit {0}) (r : Option Found) (v : Found) → k < length members
    → r ≡ found_in asked (placed (EntryPlace.Acl (get_or members k d).0) 0 (unwrap_or (at_key lists (get_or members k d).0) [])) → r ≡ Some v
    → found_in asked (acl_entries lists (drop k members)) ≡ Some v
found_here asked lists members k d r v less is e = groups_from asked lists members k d less ∙ found_first _ _ v (sym is ∙ e)

-- where nothing is found in the group at this place, the others are searched
pub found_later : (asked : Asked) (lists : List (ℕ × List Entry)) (members : List (ℕ × Unit {0})) (k : ℕ) (d : ℕ × Unit {0}) (r : Option Found) → k < length members
    → r ≡ found_in asked (placed (EntryPlace.Acl (get_or members k d).0) 0 (unwrap_or (at_key lists (get_or members k d).0) [])) → r ≡ None
    → found_in asked (acl_entries lists (drop k members)) ≡ found_in asked (acl_entries lists (drop (k + 1) members))
found_later asked lists members k d r less is e =
    let next : suc k ≡ k + 1 = omega arith in
    groups_from asked lists members k d less ∙ found_next _ _ (sym is ∙ e) ∙ ap (λ n. found_in asked (acl_entries lists (drop n members))) next

-- what is found in the first list is found in both
pub found_own : (asked : Asked) (xs ys : List (EntryPlace × Entry)) (r : Option Found) (found : Found)
    → r ≡ found_in asked xs → r ≡ Some found → Some found ≡ found_in asked (xs ++ ys)
found_own asked xs ys r found e is =
    ap (λ (o : Option Found). option_or o (found_in asked ys)) (sym is ∙ e) ∙ sym (found-append asked xs ys)

-- where nothing is found in the first list, what is found in the second one is found in both
pub found_after : (asked : Asked) (xs ys : List (EntryPlace × Entry)) (r s : Option Found)
    → r ≡ found_in asked xs → r ≡ None → s ≡ found_in asked ys → s ≡ found_in asked (xs ++ ys)
found_after asked xs ys r s e is h =
    h ∙ ap (λ (o : Option Found). option_or o (found_in asked ys)) (sym is ∙ e) ∙ sym (found-append asked xs ys)
