-- Facts of every element of a list, and lists by their places.
use Rattle.std.proofs.Common.{◌≡◌, ◌<◌, ℕ, zero, suc, ◌+◌, List, [], ◌∷◌, ◌++◌, length, Bool, true, false, refl, sym, ap, ◌∙◌, subst, arith}
use Rattle.std.specs.Prelude.{Option, Some, None, IsSome, slice_get, slice_index_or, filter, map, flat_map, take, if◌then◌else◌}
use Rattle.std.specs.List.{AllByRecursion}
use Rattle.tm_legal.specs.Prelude.{numbers_to}

pub All-at : {A : Type 0} (P : A → Type 0) (xs : List A) (n : ℕ) (x : A) → AllByRecursion P xs → slice_get xs n ≡ Some x → P x
All-at P [] n x h at = absurd cc
All-at P (y ∷ xs) zero x h at = let same : y ≡ x = cc in subst P same h.0
All-at P (y ∷ xs) (suc n) x h at = All-at P xs n x h.1 at

pub All-of : {A : Type 0} (P : A → Type 0) (xs : List A) → ((n : ℕ) (x : A) → slice_get xs n ≡ Some x → P x) → AllByRecursion P xs
All-of P [] h = tt
All-of P (x ∷ xs) h = (h 0 x refl, All-of P xs (λ n y at. h (suc n) y at))

-- what holds of all holds of those that pass a test, with the test
pub All-filter : {A : Type 0} (P : A → Type 0) (test : A → Bool) (xs : List A) → AllByRecursion P xs → AllByRecursion (λ x. P x × (test x ≡ true)) (filter test xs)
All-filter P test [] h = tt
All-filter P test (x ∷ xs) h = go (test x) refl (All-filter P test xs h.1)
  where
    go : (b : Bool) → test x ≡ b → AllByRecursion (λ y. P y × (test y ≡ true)) (filter test xs) → AllByRecursion (λ y. P y × (test y ≡ true)) (if b then x ∷ filter test xs else filter test xs)
    go true e rest = ((h.0, e), rest)
    go false e rest = rest

pub All-mapped : {A B : Type 0} (P : B → Type 0) (f : A → B) (xs : List A) → AllByRecursion (λ x. P (f x)) xs → AllByRecursion P (map f xs)
All-mapped P f [] h = tt
All-mapped P f (x ∷ xs) h = (h.0, All-mapped P f xs h.1)

-- the first of two lists, where it has so many elements
pub take-front : {A : Type 0} (n : ℕ) (xs ys : List A) → length xs ≡ n → take n (xs ++ ys) ≡ xs
take-front zero [] ys is = refl
take-front zero (x ∷ xs) ys is = absurd (omega (arith, is))
take-front (suc n) [] ys is = absurd (omega (arith, is))
take-front (suc n) (x ∷ xs) ys is = ap (λ (l : List _). x ∷ l) (take-front n xs ys (omega (arith, is)))

pub get-mapped : {A B : Type 0} (f : A → B) (xs : List A) (k : ℕ) (y : B) → slice_get (map f xs) k ≡ Some y → (x : A) × (slice_get xs k ≡ Some x) × (f x ≡ y)
get-mapped f [] k y at = absurd cc
get-mapped f (x ∷ xs) zero y at = let same : f x ≡ y = cc in (x, refl, same)
get-mapped f (x ∷ xs) (suc k) y at = get-mapped f xs k y at

pub get-map : {A B : Type 0} (f : A → B) (xs : List A) (k : ℕ) (x : A) → slice_get xs k ≡ Some x → slice_get (map f xs) k ≡ Some (f x)
get-map f [] k x at = absurd cc
get-map f (y ∷ xs) zero x at = let same : y ≡ x = cc in ap (λ (z : _). Some (f z)) same
get-map f (y ∷ xs) (suc k) x at = get-map f xs k x at

pub length-mapped : {A B : Type 0} (f : A → B) (xs : List A) → length (map f xs) ≡ length xs
length-mapped f [] = refl
length-mapped f (x ∷ xs) = ap suc (length-mapped f xs)

get-front : {A : Type 0} (xs ys : List A) (k : ℕ) → k < length xs → slice_get (xs ++ ys) k ≡ slice_get xs k
get-front [] ys k lt = absurd (omega (arith, lt))
get-front (x ∷ xs) ys zero lt = refl
get-front (x ∷ xs) ys (suc k) lt = get-front xs ys k (omega (arith, lt))

get-last : {A : Type 0} (xs : List A) (x : A) → slice_get (xs ++ x ∷ []) (length xs) ≡ Some x
get-last [] x = refl
get-last (y ∷ xs) x = get-last xs x

length-last : {A : Type 0} (xs : List A) (x : A) → length (xs ++ x ∷ []) ≡ suc (length xs)
length-last [] x = refl
length-last (y ∷ xs) x = ap suc (length-last xs x)

pub length-to : (n : ℕ) → length (numbers_to n) ≡ n
length-to zero = refl
length-to (suc n) = length-last (numbers_to n) (suc n) ∙ ap suc (length-to n)

past : {A : Type 0} (xs : List A) (j : ℕ) → length xs < suc j → slice_get xs j ≡ None
past [] j lt = refl
past (x ∷ xs) zero lt = absurd (omega (arith, lt))
past (x ∷ xs) (suc j) lt = past xs j (omega (arith, lt))

-- how a number stands to another
data Order (k n : ℕ) : Type 0 where
  Below : k < n → Order k n
  At : k ≡ n → Order k n
  Past : n < k → Order k n

onward : (k n : ℕ) → Order k n → Order (suc k) (suc n)
onward k n (Below lt) = Below (omega (arith, lt))
onward k n (At is) = At (ap suc is)
onward k n (Past lt) = Past (omega (arith, lt))

order : (k n : ℕ) → Order k n
order zero zero = At refl
order zero (suc n) = Below (omega arith)
order (suc k) zero = Past (omega arith)
order (suc k) (suc n) = onward k n (order k n)

-- the number at place k is k + 1
pub number-to : (n k m : ℕ) → slice_get (numbers_to n) k ≡ Some m → m ≡ suc k
number-to zero k m at = absurd cc
number-to (suc n) k m at = go (order k n) (λ before. number-to n k m before)
  where
    go : Order k n → (slice_get (numbers_to n) k ≡ Some m → m ≡ suc k) → m ≡ suc k
    go (Below lt) earlier = earlier (sym (get-front (numbers_to n) (suc n ∷ []) k (let long = length-to n in omega (arith, long, lt))) ∙ at)
    go (At is) earlier =
        let here : slice_get (numbers_to n ++ suc n ∷ []) n ≡ Some (suc n) = subst (λ i. slice_get (numbers_to n ++ suc n ∷ []) i ≡ Some (suc n)) (length-to n) (get-last (numbers_to n) (suc n)) in
        let both : Some m ≡ Some (suc n) = sym at ∙ ap (slice_get (numbers_to n ++ suc n ∷ [])) is ∙ here in
        let same : m ≡ suc n = cc in
        same ∙ ap suc (sym is)
    go (Past lt) earlier =
        let none : slice_get (numbers_to n ++ suc n ∷ []) k ≡ None = past (numbers_to n ++ suc n ∷ []) k (let long = length-last (numbers_to n) (suc n) in let n_long = length-to n in omega (arith, long, n_long, lt)) in
        let both : Some m ≡ None = sym at ∙ none in
        absurd cc
