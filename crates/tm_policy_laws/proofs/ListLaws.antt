-- Lists without repetition and maps: what they keep as members join and leave, and that they are
-- rebuilt one by one.
use Rattle.std.proofs.Common.{◌≡◌, ℕ, zero, suc, ◌==◌, nat_lt, Bool, true, false, cond, ◌||◌, List, [], ◌∷◌, ◌++◌, refl, sym, ap, subst, ◌∙◌}
use Rattle.std.specs.Prelude.{Some, if◌then◌else◌, not, filter, slice_get}
use Rattle.std.specs.List.{AllByRecursion, IsDistinct, fold, list_any}
use Rattle.std.proofs.lemmas.List.{append_assoc, append-nil}
use Rattle.tm_list.specs.Map.{Rises}
use Rattle.tm_rules.specs.Types.{Entry}
use Rattle.tm_profile.proofs.MapEnds.{below_at, put_last}
use Rattle.tm_rules.specs.Prelude.{adding, changed_at, joining, leaving, put_key, remove_key}
use Rattle.tm_rules.proofs.EqualityLaws.{Decides}

-- Lists that are made one by one

-- these join a list, one after another
abbrev pub joining_all : {A : Type 0} → (A → A → Bool) → List A → List A → List A
joining_all same done xs = fold (λ list x. joining same x list) done xs

-- these lines are added to a list of entries, one after another
abbrev pub adding_all : List Entry → List Entry → List Entry
adding_all done lines = fold (λ list line. adding line list) done lines

-- these are put into a map, one after another
abbrev pub putting_all : {A : Type 0} → List (ℕ × A) → List (ℕ × A) → List (ℕ × A)
putting_all done pairs = fold (λ map pair. put_key pair.0 pair.1 map) done pairs

-- the order of the two doesn't matter to a test
abbrev pub IsEven : {A : Type 0} → (A → A → Bool) → Type 0
IsEven same = (x y : _) → same x y ≡ same y x

-- Each of a list

pub all_map : {A : Type 0} (P Q : A → Type 0) → ((x : A) → P x → Q x) → (xs : List A) → AllByRecursion P xs → AllByRecursion Q xs
all_map P Q f [] h = tt
all_map P Q f (x ∷ xs) h = (f x h.0, all_map P Q f xs h.1)

pub all_push : {A : Type 0} (P : A → Type 0) (x : A) (xs : List A) → P x → AllByRecursion P xs → AllByRecursion P (xs ++ x ∷ [])
all_push P x [] h all = (h, tt)
all_push P x (y ∷ ys) h all = (all.0, all_push P x ys h all.1)

pub all_joining : {A : Type 0} (P : A → Type 0) (same : A → A → Bool) (x : A) (xs : List A) → P x → AllByRecursion P xs → AllByRecursion P (joining same x xs)
all_joining {A} P same x xs h all = go (list_any (same x) xs)
  where
    go : (b : Bool) → AllByRecursion P (if b then xs else xs ++ x ∷ [])
    go true = all
    go false = all_push P x xs h all

pub all_filter : {A : Type 0} (P : A → Type 0) (t : A → Bool) (xs : List A) → AllByRecursion P xs → AllByRecursion P (filter t xs)
all_filter P t [] all = tt
all_filter {A} P t (x ∷ xs) all = go (t x) (all_filter P t xs all.1)
  where
    go : (b : Bool) → AllByRecursion P (filter t xs) → AllByRecursion P (cond b (x ∷ filter t xs) (filter t xs))
    go true rest = (all.0, rest)
    go false rest = rest

-- what is at a place
pub all_at : {A : Type 0} (P : A → Type 0) (xs : List A) (k : ℕ) (x : A) → slice_get xs k ≡ Some x → AllByRecursion P xs → P x
all_at P [] k x at all = absurd cc
all_at P (y ∷ ys) zero x at all = let same : y ≡ x = cc in subst P same all.0
all_at P (y ∷ ys) (suc k) x at all = all_at P ys k x at all.1

-- another element at a place
pub all_set : {A : Type 0} (P : A → Type 0) (change : A → A) (k : ℕ) (xs : List A) → ((x : A) → P x → P (change x)) → AllByRecursion P xs → AllByRecursion P (changed_at k change xs)
all_set P change k [] f all = tt
all_set P change zero (x ∷ xs) f all = (f x all.0, all.1)
all_set P change (suc k) (x ∷ xs) f all = (all.0, all_set P change k xs f all.1)

-- what stands after some of a list
all_end : {A : Type 0} (P : A → Type 0) (xs : List A) (y : A) (ys : List A) → AllByRecursion P (xs ++ y ∷ ys) → P y
all_end P [] y ys all = all.0
all_end P (x ∷ xs) y ys all = all_end P xs y ys all.1

-- Keys of a map

pub all_put : {V : Type 0} (P : ℕ × V → Type 0) (n : ℕ) (v : V) (pairs : List (ℕ × V)) → P (n, v) → AllByRecursion P pairs → AllByRecursion P (put_key n v pairs)
all_put P n v [] h all = (h, tt)
all_put {V} P n v (pair ∷ pairs) h all = go (nat_lt pair.0 n) (pair.0 == n) (all_put P n v pairs h all.1)
  where
    go : (a b : Bool) → AllByRecursion P (put_key n v pairs) → AllByRecursion P (if a then pair ∷ put_key n v pairs else (if b then (n, v) ∷ pairs else (n, v) ∷ pair ∷ pairs))
    go true b more = (all.0, more)
    go false true more = (h, all.1)
    go false false more = (h, all)

pub all_without : {V : Type 0} (P : ℕ × V → Type 0) (n : ℕ) (pairs : List (ℕ × V)) → AllByRecursion P pairs → AllByRecursion P (remove_key n pairs)
all_without P n [] all = tt
all_without {V} P n (pair ∷ pairs) all = go (pair.0 == n) (all_without P n pairs all.1)
  where
    go : (b : Bool) → AllByRecursion P (remove_key n pairs) → AllByRecursion P (if b then pairs else pair ∷ remove_key n pairs)
    go true more = all.1
    go false more = (all.0, more)

-- Tests that are even

pub even_from : {A : Type 0} (same : A → A → Bool) → Decides same → IsEven same
even_from {A} same decides x y = go (same x y) (same y x) refl refl
  where
    go : (a b : Bool) → same x y ≡ a → same y x ≡ b → a ≡ b
    go true true h k = refl
    go false false h k = refl
    go true false h k =
        let e = decides.sound x y h in
        let full : same y y ≡ true = decides.full y in
        let again : same y y ≡ false = subst (λ z. same y z ≡ false) e k in
        absurd cc
    go false true h k =
        let e = decides.sound y x k in
        let full : same x x ≡ true = decides.full x in
        let again : same x x ≡ false = subst (λ z. same x z ≡ false) e h in
        absurd cc

-- Lists without repetition

none_or : (a b : Bool) → (a || b) ≡ false → (a ≡ false) × (b ≡ false)
none_or true b h = absurd cc
none_or false b h = (refl, h)

all_differ : {A : Type 0} (t : A → Bool) (xs : List A) → list_any t xs ≡ false → AllByRecursion (λ y. t y ≡ false) xs
all_differ t [] h = tt
all_differ t (x ∷ xs) h = let parts = none_or (t x) (list_any t xs) h in (parts.0, all_differ t xs parts.1)

none_any : {A : Type 0} (t : A → Bool) (xs : List A) → AllByRecursion (λ y. t y ≡ false) xs → list_any t xs ≡ false
none_any t [] all = refl
none_any t (x ∷ xs) all = rw all.0 (none_any t xs all.1)

none_push : {A : Type 0} (same : A → A → Bool) (x : A) (xs : List A) → AllByRecursion (λ y. same y x ≡ false) xs → IsDistinct same xs → IsDistinct same (xs ++ x ∷ [])
unfolding IsDistinct
none_push same x [] differ once = (tt, tt)
none_push same x (y ∷ ys) differ once = (all_push (λ z. same y z ≡ false) x ys differ.0 once.0, none_push same x ys differ.1 once.1)

pub once_joining : {A : Type 0} (same : A → A → Bool) (x : A) (xs : List A) → IsEven same → IsDistinct same xs → IsDistinct same (joining same x xs)
unfolding IsDistinct
once_joining {A} same x xs even once = go (list_any (same x) xs) refl
  where
    go : (b : Bool) → list_any (same x) xs ≡ b → IsDistinct same (if b then xs else xs ++ x ∷ [])
    go true e = once
    go false e = none_push same x xs (all_map (λ y. same x y ≡ false) (λ y. same y x ≡ false) (λ y h. even y x ∙ h) xs (all_differ (same x) xs e)) once

once_filter : {A : Type 0} (same : A → A → Bool) (t : A → Bool) (xs : List A) → IsDistinct same xs → IsDistinct same (filter t xs)
unfolding IsDistinct
once_filter same t [] once = tt
once_filter {A} same t (x ∷ xs) once = go (t x) (once_filter same t xs once.1)
  where
    go : (b : Bool) → IsDistinct same (filter t xs) → IsDistinct same (cond b (x ∷ filter t xs) (filter t xs))
    go true rest = (all_filter (λ y. same x y ≡ false) t xs once.0, rest)
    go false rest = rest

pub once_leaving : {A : Type 0} (same : A → A → Bool) (x : A) (xs : List A) → IsDistinct same xs → IsDistinct same (leaving same x xs)
once_leaving same x xs once = once_filter same (λ y. not (same x y)) xs once

-- no member is the same as one before it
pub once_before : {A : Type 0} (same : A → A → Bool) (done : List A) (x : A) (rest : List A) → IsDistinct same (done ++ x ∷ rest) → AllByRecursion (λ y. same y x ≡ false) done
unfolding IsDistinct
once_before same [] x rest once = tt
once_before same (y ∷ ys) x rest once = (all_end (λ z. same y z ≡ false) ys x rest once.0, once_before same ys x rest once.1)

-- Lists rebuilt

joins_last : {A : Type 0} (same : A → A → Bool) (x : A) (done : List A) → IsEven same → AllByRecursion (λ y. same y x ≡ false) done → joining same x done ≡ done ++ x ∷ []
joins_last same x done even differ =
    let none = none_any (same x) done (all_map (λ y. same y x ≡ false) (λ y. same x y ≡ false) (λ y h. even x y ∙ h) done differ) in
    rw none refl

pub joined_after : {A : Type 0} (same : A → A → Bool) (done xs : List A) → IsEven same → IsDistinct same (done ++ xs) → joining_all same done xs ≡ done ++ xs
joined_after same done [] even once = sym (append-nil done)
joined_after same done (x ∷ xs) even once =
    let whole : (done ++ x ∷ []) ++ xs ≡ done ++ x ∷ xs = append_assoc done (x ∷ []) xs in
    ap (λ list. joining_all same list xs) (joins_last same x done even (once_before same done x xs once))
    ∙ joined_after same (done ++ x ∷ []) xs even (subst (IsDistinct same) (sym whole) once)
    ∙ whole

pub put_after : {A : Type 0} (done pairs : List (ℕ × A)) → Rises (λ n. n) (done ++ pairs) → putting_all done pairs ≡ done ++ pairs
put_after done [] rises = sym (append-nil done)
put_after {A} done (pair ∷ pairs) rises =
    let whole : (done ++ pair ∷ []) ++ pairs ≡ done ++ pair ∷ pairs = append_assoc done (pair ∷ []) pairs in
    ap (λ map. putting_all map pairs) (put_last (λ (n : ℕ). n) pair.0 pair.1 done (below_at (λ (n : ℕ). n) done pair pairs rises))
    ∙ put_after (done ++ pair ∷ []) pairs (subst (Rises (λ n. n)) (sym whole) rises)
    ∙ whole
