-- The places of the elements that pass a test, and what is found at them.
use Rattle.std.proofs.Common.{◌≡◌, ℕ, zero, suc, ◌+◌, ◌<◌, ◌≤◌, ◌==◌, Bool, true, false, ◌||◌, if◌then◌else◌, List, [], ◌∷◌, ◌++◌, length, get_or, slice_set, refl, sym, ap, subst, ◌∙◌, arith, eq-eqb}
use Rattle.std.proofs.lemmas.Bool.{ne_eqb, lt-ltb, le-ltb}
use Rattle.std.specs.Prelude.{Option, Some, None, nat_lt, slice_get}
use Rattle.std.specs.Option.{option_or}
use Rattle.std.specs.List.{position_from, find, list_any, remove}
use Rattle.tm_rules.specs.Prelude.{first_of_all}
use Rattle.tm_index.specs.Buckets.{lowered, closing}
use Rattle.tm_index.specs.Listing.{places_from, at_place, holds_at}

-- the place of one element, where it passes
abbrev pub place_if : Bool → ℕ → List ℕ
place_if b n = if b then n ∷ [] else []

-- an element more, last
pub places_more : {A : Type 0} (test : A → Bool) (n : ℕ) (xs : List A) (x : A) → places_from test n (xs ++ x ∷ []) ≡ places_from test n xs ++ place_if (test x) (n + length xs)
places_more test n [] x = go (test x)
  where
    go : (b : Bool) → (if b then n ∷ [] else []) ≡ place_if b (n + 0)
    go true = let same : n ≡ n + 0 = omega arith in ap (λ k. k ∷ []) same
    go false = refl
places_more test n (y ∷ ys) x = go (test y) (places_more test (suc n) ys x)
  where
    go : (b : Bool) → places_from test (suc n) (ys ++ x ∷ []) ≡ places_from test (suc n) ys ++ place_if (test x) (suc n + length ys)
        → (if b then n ∷ places_from test (suc n) (ys ++ x ∷ []) else places_from test (suc n) (ys ++ x ∷ [])) ≡ (if b then n ∷ places_from test (suc n) ys else places_from test (suc n) ys) ++ place_if (test x) (n + suc (length ys))
    go true ih = let same : suc n + length ys ≡ n + suc (length ys) = omega arith in ap (λ t. n ∷ t) (ih ∙ ap (λ k. places_from test (suc n) ys ++ place_if (test x) k) same)
    go false ih = let same : suc n + length ys ≡ n + suc (length ys) = omega arith in ih ∙ ap (λ k. places_from test (suc n) ys ++ place_if (test x) k) same

-- another element in a place, which passes where the one before did
pub places_set : {A : Type 0} (test : A → Bool) (n : ℕ) (xs : List A) (k : ℕ) (y d : A) → test y ≡ test (get_or xs k d) → places_from test n (slice_set xs k y) ≡ places_from test n xs
places_set test n [] k y d e = refl
places_set test n (x ∷ xs) zero y d e = ap (λ b. if b then n ∷ places_from test (suc n) xs else places_from test (suc n) xs) e
places_set test n (x ∷ xs) (suc k) y d e = ap (λ t. if test x then n ∷ t else t) (places_set test (suc n) xs k y d e)

-- what is done to a place that stays, and to the rest
closing-kept : (place n : ℕ) (rest : List ℕ) → (n == place) ≡ false → closing place (n ∷ rest) ≡ lowered place n ∷ closing place rest
closing-kept place n rest h = rw h refl

closing-out : (place : ℕ) (rest : List ℕ) → closing place (place ∷ rest) ≡ closing place rest
closing-out place rest = rw (eq-eqb place place refl) refl

-- all places after the one that is gone move up
closing-after : {A : Type 0} (test : A → Bool) (place n : ℕ) (xs : List A) → place ≤ n → closing place (places_from test (suc n) xs) ≡ places_from test n xs
closing-after test place n [] le = refl
closing-after test place n (x ∷ xs) le = go (test x) (closing-after test place (suc n) xs (omega (arith, le)))
  where
    go : (b : Bool) → closing place (places_from test (suc (suc n)) xs) ≡ places_from test (suc n) xs
        → closing place (if b then suc n ∷ places_from test (suc (suc n)) xs else places_from test (suc (suc n)) xs) ≡ (if b then n ∷ places_from test (suc n) xs else places_from test (suc n) xs)
    go true ih =
        let apart : (suc n == place) ≡ false = ne_eqb (suc n) place (λ e. absurd (omega (arith, le, e))) in
        let less : nat_lt place (suc n) ≡ true = lt-ltb place (suc n) (omega (arith, le)) in
        let down : lowered place (suc n) ≡ n = rw less (omega arith) in
        closing-kept place (suc n) (places_from test (suc (suc n)) xs) apart ∙ ap (λ k. k ∷ closing place (places_from test (suc (suc n)) xs)) down ∙ ap (λ t. n ∷ t) ih
    go false ih = ih

closing-from : {A : Type 0} (test : A → Bool) (n k place : ℕ) (xs : List A) → place ≡ n + k → k < length xs → closing place (places_from test n xs) ≡ places_from test n (remove xs k)
closing-from test n k place [] e less = absurd (omega (arith, less))
closing-from test n zero place (x ∷ xs) e less = go (test x)
  where
    go : (b : Bool) → closing place (if b then n ∷ places_from test (suc n) xs else places_from test (suc n) xs) ≡ places_from test n xs
    go true =
        let same : n ≡ place = omega (arith, e) in
        let gone : closing place (n ∷ places_from test (suc n) xs) ≡ closing place (places_from test (suc n) xs) = subst (λ m. closing place (m ∷ places_from test (suc n) xs) ≡ closing place (places_from test (suc n) xs)) (sym same) (closing-out place (places_from test (suc n) xs)) in
        gone ∙ closing-after test place n xs (omega (arith, e))
    go false = closing-after test place n xs (omega (arith, e))
closing-from test n (suc k) place (x ∷ xs) e less = go (test x) (closing-from test (suc n) k place xs (omega (arith, e)) (omega (arith, less)))
  where
    go : (b : Bool) → closing place (places_from test (suc n) xs) ≡ places_from test (suc n) (remove xs k)
        → closing place (if b then n ∷ places_from test (suc n) xs else places_from test (suc n) xs) ≡ (if b then n ∷ places_from test (suc n) (remove xs k) else places_from test (suc n) (remove xs k))
    go true ih =
        let apart : (n == place) ≡ false = ne_eqb n place (λ f. absurd (omega (arith, e, f))) in
        let more : nat_lt place n ≡ false = le-ltb place n (omega (arith, e)) in
        let stays : lowered place n ≡ n = rw more refl in
        closing-kept place n (places_from test (suc n) xs) apart ∙ ap (λ m. m ∷ closing place (places_from test (suc n) xs)) stays ∙ ap (λ t. n ∷ t) ih
    go false ih = ih

-- the places after an element is gone
pub places_closed : {A : Type 0} (test : A → Bool) (k : ℕ) (xs : List A) → k < length xs → closing k (places_from test 0 xs) ≡ places_from test 0 (remove xs k)
places_closed test k xs less = closing-from test 0 k k xs (omega arith) less

-- What is found at places

-- the elements of a list from a place on are those of another one
abbrev pub Follows : {A : Type 0} → List A → ℕ → List A → Type 0
Follows whole n xs = (j : ℕ) → slice_get whole (n + j) ≡ slice_get xs j

here : {A : Type 0} (whole : List A) (n : ℕ) (x : A) (xs : List A) → Follows whole n (x ∷ xs) → slice_get whole n ≡ Some x
here whole n x xs h = let same : n ≡ n + 0 = omega arith in ap (slice_get whole) same ∙ h 0

next : {A : Type 0} (whole : List A) (n : ℕ) (x : A) (xs : List A) → Follows whole n (x ∷ xs) → Follows whole (suc n) xs
next whole n x xs h = λ j. let same : suc n + j ≡ n + suc j = omega arith in ap (slice_get whole) same ∙ h (suc j)

pub itself : {A : Type 0} (xs : List A) → Follows xs 0 xs
itself xs = λ j. let same : 0 + j ≡ j = omega arith in ap (slice_get xs) same

-- the first that an element has, by its place
abbrev pub first_numbered : {A B : Type 0} → (ℕ → A → Option B) → ℕ → List A → Option B
first_numbered f n [] = None
first_numbered f n (x ∷ xs) = option_or (f n x) (first_numbered f (suc n) xs)

-- something only of elements that pass
abbrev pub only : {A B : Type 0} → (A → Bool) → (ℕ → A → Option B) → ℕ → A → Option B
only test f n x = if test x then f n x else None

found-from : {A B : Type 0} (test : A → Bool) (f : ℕ → A → Option B) (whole : List A) (n : ℕ) (xs : List A) → Follows whole n xs → first_of_all (at_place f whole) (places_from test n xs) ≡ first_numbered (only test f) n xs
found-from test f whole n [] h = refl
found-from test f whole n (x ∷ xs) h = go (test x) (here whole n x xs h) (found-from test f whole (suc n) xs (next whole n x xs h))
  where
    go : (b : Bool) → slice_get whole n ≡ Some x → first_of_all (at_place f whole) (places_from test (suc n) xs) ≡ first_numbered (only test f) (suc n) xs
        → first_of_all (at_place f whole) (if b then n ∷ places_from test (suc n) xs else places_from test (suc n) xs) ≡ option_or (if b then f n x else None) (first_numbered (only test f) (suc n) xs)
    go true there ih = rw (there, ih) refl
    go false there ih = ih

-- what is found at the places of the elements that pass is the first that such an element has
pub found_at_places : {A B : Type 0} (test : A → Bool) (f : ℕ → A → Option B) (xs : List A) → first_of_all (at_place f xs) (places_from test 0 xs) ≡ first_numbered (only test f) 0 xs
found_at_places test f xs = found-from test f xs 0 xs (itself xs)

position-at : {A : Type 0} (test wide : A → Bool) (whole : List A) (n : ℕ) (xs : List A) → ((x : A) → test x ≡ true → wide x ≡ true) → Follows whole n xs → find (holds_at test whole) (places_from wide n xs) ≡ position_from test n xs
position-at test wide whole n [] all h = refl
position-at test wide whole n (x ∷ xs) all h = go (test x) (wide x) refl refl (here whole n x xs h) (position-at test wide whole (suc n) xs all (next whole n x xs h))
  where
    go : (a b : Bool) → test x ≡ a → wide x ≡ b → slice_get whole n ≡ Some x → find (holds_at test whole) (places_from wide (suc n) xs) ≡ position_from test (suc n) xs
        → find (holds_at test whole) (if b then n ∷ places_from wide (suc n) xs else places_from wide (suc n) xs) ≡ (if a then Some n else position_from test (n + 1) xs)
    go true true e f there ih = rw (there, e) refl
    go true false e f there ih = let both : wide x ≡ true = all x e in absurd cc
    go false true e f there ih = let step : suc n ≡ n + 1 = omega arith in rw (there, e) (ih ∙ ap (λ k. position_from test k xs) step)
    go false false e f there ih = let step : suc n ≡ n + 1 = omega arith in ih ∙ ap (λ k. position_from test k xs) step

-- where the first stands that passes, among the places of those that pass a wider test
pub position_at_places : {A : Type 0} (test wide : A → Bool) (xs : List A) → ((x : A) → test x ≡ true → wide x ≡ true) → find (holds_at test xs) (places_from wide 0 xs) ≡ position_from test 0 xs
position_at_places test wide xs all = position-at test wide xs 0 xs all (itself xs)

any-at : {A : Type 0} (test wide : A → Bool) (whole : List A) (n : ℕ) (xs : List A) → ((x : A) → test x ≡ true → wide x ≡ true) → Follows whole n xs → list_any (holds_at test whole) (places_from wide n xs) ≡ list_any test xs
any-at test wide whole n [] all h = refl
any-at test wide whole n (x ∷ xs) all h = go (test x) (wide x) refl refl (here whole n x xs h) (any-at test wide whole (suc n) xs all (next whole n x xs h))
  where
    go : (a b : Bool) → test x ≡ a → wide x ≡ b → slice_get whole n ≡ Some x → list_any (holds_at test whole) (places_from wide (suc n) xs) ≡ list_any test xs
        → list_any (holds_at test whole) (if b then n ∷ places_from wide (suc n) xs else places_from wide (suc n) xs) ≡ (a || list_any test xs)
    go true true e f there ih = rw (there, e) refl
    go true false e f there ih = let both : wide x ≡ true = all x e in absurd cc
    go false true e f there ih = rw (there, e) ih
    go false false e f there ih = ih

-- whether one passes
pub any_at_places : {A : Type 0} (test wide : A → Bool) (xs : List A) → ((x : A) → test x ≡ true → wide x ≡ true) → list_any (holds_at test xs) (places_from wide 0 xs) ≡ list_any test xs
any_at_places test wide xs all = any-at test wide xs 0 xs all (itself xs)
