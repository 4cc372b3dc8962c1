-- A change of the element at a place, and of the first element that a test finds.
use Rattle.std.proofs.Common.{◌≡◌, ℕ, zero, suc, ◌+◌, get_or, arith, Bool, true, false, List, [], ◌∷◌, ◌++◌, refl, sym, ap, ◌∙◌}
use Rattle.std.specs.Prelude.{Some, None, if◌then◌else◌, slice_set}
use Rattle.std.specs.List.{position_from, find}
use Rattle.tm_word.specs.Prelude.{Text, texts_equal}
use Rattle.tm_rules.specs.Types.{Namespace}
use Rattle.tm_rules.specs.Prelude.{changed_at, empty_namespace, in_namespace}

-- the element that is changed, put back in its place
pub changed_there : {A : Type 0} (change : A → A) (xs : List A) (k : ℕ) (x y : A) → x ≡ get_or xs k x → y ≡ change x → slice_set xs k y ≡ changed_at k change xs
changed_there change [] k x y is done = refl
changed_there change (z ∷ xs) zero x y is done = ap (λ t. t ∷ xs) (done ∙ ap change is)
changed_there change (z ∷ xs) (suc k) x y is done = ap (λ t. z ∷ t) (changed_there change xs k x y is done)

-- the first element that passes is changed, or a new one goes last
abbrev changing : {A : Type 0} → (A → Bool) → (A → A) → A → List A → List A
changing test change new [] = new ∷ []
changing test change new (x ∷ xs) = if test x then change x ∷ xs else x ∷ changing test change new xs

-- where none passes the new one goes last
changing-none : {A : Type 0} (test : A → Bool) (change : A → A) (new : A) (i : ℕ) (xs : List A) → position_from test i xs ≡ None → changing test change new xs ≡ xs ++ new ∷ []
changing-none test change new i [] e = refl
changing-none test change new i (x ∷ xs) e = go (changing-none test change new (i + 1) xs) (test x) refl e
  where
    go : (position_from test (i + 1) xs ≡ None → changing test change new xs ≡ xs ++ new ∷ []) → (b : Bool) → test x ≡ b → (if b then Some i else position_from test (i + 1) xs) ≡ None
        → (if b then change x ∷ xs else x ∷ changing test change new xs) ≡ x ∷ xs ++ new ∷ []
    go ih true h e = absurd cc
    go ih false h e = ap (λ t. x ∷ t) (ih e)

-- where one passes it is changed in its place
changing-some : {A : Type 0} (test : A → Bool) (change : A → A) (new : A) (i : ℕ) (xs : List A) (k : ℕ) → position_from test i xs ≡ Some k
    → (j : ℕ) × (k ≡ i + j) × (changing test change new xs ≡ changed_at j change xs)
changing-some test change new i [] k e = absurd cc
changing-some test change new i (x ∷ xs) k e = go (changing-some test change new (i + 1) xs k) (test x) refl e
  where
    go : (position_from test (i + 1) xs ≡ Some k → (j : ℕ) × (k ≡ i + 1 + j) × (changing test change new xs ≡ changed_at j change xs)) → (b : Bool) → test x ≡ b
        → (if b then Some i else position_from test (i + 1) xs) ≡ Some k → (j : ℕ) × (k ≡ i + j) × ((if b then change x ∷ xs else x ∷ changing test change new xs) ≡ changed_at j change (x ∷ xs))
    go ih true h e = let same : i ≡ k = cc in (0, omega (arith, same), refl)
    go ih false h e =
        let found = ih e in
        let place : k ≡ i + 1 + found.0 = found.1 in
        let next : k ≡ i + suc found.0 = omega (arith, place) in
        (suc found.0, next, ap (λ t. x ∷ t) found.2)

namespace-changing : (name : Text) (change : Namespace → Namespace) (spaces : List Namespace) → in_namespace name change spaces ≡ changing (λ (ns : Namespace). texts_equal ns.name name) change (change (empty_namespace name)) spaces
namespace-changing name change [] = refl
namespace-changing name change (n ∷ ns) = ap (λ t. if texts_equal n.name name then change n ∷ ns else n ∷ t) (namespace-changing name change ns)

-- a namespace of which nothing was written is made last
pub namespace_last : (name : Text) (change : Namespace → Namespace) (spaces : List Namespace) → position_from (λ (ns : Namespace). texts_equal ns.name name) 0 spaces ≡ None → spaces ++ change (empty_namespace name) ∷ [] ≡ in_namespace name change spaces
namespace_last name change spaces e = sym (namespace-changing name change spaces ∙ changing-none (λ (ns : Namespace). texts_equal ns.name name) change (change (empty_namespace name)) 0 spaces e)

-- a namespace that is there is changed
pub namespace_there : (name : Text) (change : Namespace → Namespace) (spaces : List Namespace) (k : ℕ) → position_from (λ (ns : Namespace). texts_equal ns.name name) 0 spaces ≡ Some k → changed_at k change spaces ≡ in_namespace name change spaces
namespace_there name change spaces k e =
    let found = changing-some (λ (ns : Namespace). texts_equal ns.name name) change (change (empty_namespace name)) 0 spaces k e in
    let place : k ≡ 0 + found.0 = found.1 in
    let same : k ≡ found.0 = omega (arith, place) in
    ap (λ j. changed_at j change spaces) same ∙ sym found.2 ∙ sym (namespace-changing name change spaces)

-- where none stands at a place none is found
pub none_found : {A : Type 0} (test : A → Bool) (i : ℕ) (xs : List A) → position_from test i xs ≡ None → find test xs ≡ None
none_found test i [] e = refl
none_found test i (x ∷ xs) e = go (none_found test (i + 1) xs) (test x) refl e
  where
    go : (position_from test (i + 1) xs ≡ None → find test xs ≡ None) → (b : Bool) → test x ≡ b → (if b then Some i else position_from test (i + 1) xs) ≡ None → (if b then Some x else find test xs) ≡ None
    go ih true h e = absurd cc
    go ih false h e = ih e
