-- Lists at their places.
use Rattle.std.proofs.Common.{◌≡◌, ℕ, zero, suc, List, [], ◌∷◌, ◌++◌, length, map, refl, ap, arith, ◌⊎◌, inl, inr}
use Rattle.std.specs.Prelude.{Some, slice_get, slice_set}
use Rattle.std.specs.List.{AllByRecursion}

pub get-set-other : {A : Type 0} (xs : List A) (k t : ℕ) (x : A) → (t ≡ k → ⊥) → slice_get (slice_set xs k x) t ≡ slice_get xs t
get-set-other [] k t x other = refl
get-set-other (y ∷ xs) zero zero x other = absurd (other refl)
get-set-other (y ∷ xs) zero (suc t) x other = refl
get-set-other (y ∷ xs) (suc k) zero x other = refl
get-set-other (y ∷ xs) (suc k) (suc t) x other = get-set-other xs k t x (λ e. other (ap suc e))

pub get-set-same : {A : Type 0} (xs : List A) (k : ℕ) (x y : A) → slice_get xs k ≡ Some y → slice_get (slice_set xs k x) k ≡ Some x
get-set-same [] k x y at = absurd cc
get-set-same (z ∷ xs) zero x y at = refl
get-set-same (z ∷ xs) (suc k) x y at = get-set-same xs k x y at

pub length-set : {A : Type 0} (xs : List A) (k : ℕ) (x : A) → length (slice_set xs k x) ≡ length xs
length-set [] k x = refl
length-set (y ∷ xs) zero x = refl
length-set (y ∷ xs) (suc k) x = ap suc (length-set xs k x)

pub map-set : {A B : Type 0} (f : A → B) (xs : List A) (k : ℕ) (x : A) → map f (slice_set xs k x) ≡ slice_set (map f xs) k (f x)
map-set f [] k x = refl
map-set f (y ∷ ys) zero x = refl
map-set f (y ∷ ys) (suc k) x = ap (λ t. f y ∷ t) (map-set f ys k x)

pub map-get : {A B : Type 0} (f : A → B) (xs : List A) (k : ℕ) (x : A) → slice_get xs k ≡ Some x → slice_get (map f xs) k ≡ Some (f x)
map-get f [] k x at = absurd cc
map-get f (y ∷ ys) zero x at = let e : y ≡ x = cc in rw e refl
map-get f (y ∷ ys) (suc k) x at = map-get f ys k x at

pub get-front : {A : Type 0} (xs ys : List A) (k : ℕ) (x : A) → slice_get xs k ≡ Some x → slice_get (xs ++ ys) k ≡ Some x
get-front [] ys k x at = absurd cc
get-front (y ∷ xs) ys zero x at = at
get-front (y ∷ xs) ys (suc k) x at = get-front xs ys k x at

pub get-last : {A : Type 0} (xs : List A) (x : A) → slice_get (xs ++ x ∷ []) (length xs) ≡ Some x
get-last [] x = refl
get-last (y ∷ xs) x = get-last xs x

-- what is at a place of a list with one more element
pub get-push : {A : Type 0} (xs : List A) (y : A) (k : ℕ) (x : A) → slice_get (xs ++ y ∷ []) k ≡ Some x → (slice_get xs k ≡ Some x) ⊎ ((k ≡ length xs) × (x ≡ y))
get-push [] y zero x at = inr (refl, cc)
get-push [] y (suc k) x at = absurd cc
get-push (z ∷ xs) y zero x at = inl at
get-push (z ∷ xs) y (suc k) x at = by (get-push xs y k x at)
  where
    by : (slice_get xs k ≡ Some x) ⊎ ((k ≡ length xs) × (x ≡ y)) → (slice_get xs k ≡ Some x) ⊎ ((suc k ≡ suc (length xs)) × (x ≡ y))
    by (inl at) = inl at
    by (inr last) = inr (ap suc last.0, last.1)

-- what is there in a list is there in another one of its length
pub get-in : {A B : Type 0} (xs : List A) (ys : List B) (k : ℕ) (x : A) → length xs ≡ length ys → slice_get xs k ≡ Some x → (y : B) × (slice_get ys k ≡ Some y)
get-in [] ys k x e at = absurd cc
get-in (z ∷ xs) [] k x e at = absurd (omega arith)
get-in (z ∷ xs) (y ∷ ys) zero x e at = (y, refl)
get-in (z ∷ xs) (y ∷ ys) (suc k) x e at = get-in xs ys k x (omega arith) at

pub All-get : {A : Type 0} (P : A → Type 0) (xs : List A) (k : ℕ) (x : A) → AllByRecursion P xs → slice_get xs k ≡ Some x → P x
All-get P [] k x all at = absurd cc
All-get P (y ∷ xs) zero x all at = (let same : y ≡ x = cc in rw same at all.0)
All-get P (y ∷ xs) (suc k) x all at = All-get P xs k x all.1 at

pub All-set : {A : Type 0} (P : A → Type 0) (xs : List A) (k : ℕ) (x : A) → AllByRecursion P xs → P x → AllByRecursion P (slice_set xs k x)
All-set P [] k x all h = tt
All-set P (y ∷ xs) zero x all h = (h, all.1)
All-set P (y ∷ xs) (suc k) x all h = (all.0, All-set P xs k x all.1 h)

pub All-later : {A : Type 0} (P Q : A → Type 0) (xs : List A) → ((x : A) → P x → Q x) → AllByRecursion P xs → AllByRecursion Q xs
All-later P Q [] f all = tt
All-later P Q (x ∷ xs) f all = (f x all.0, All-later P Q xs f all.1)

pub All-both : {A : Type 0} (P : A → Type 0) (xs ys : List A) → AllByRecursion P xs → AllByRecursion P ys → AllByRecursion P (xs ++ ys)
All-both P [] ys all more = more
All-both P (x ∷ xs) ys all more = (all.0, All-both P xs ys all.1 more)

-- a list around one of its elements
pub record SplitAt {A : Type 0} (xs : List A) (k : ℕ) (x : A) : Type 0 where
  pub before : List A
  pub behind : List A
  pub is : xs ≡ before ++ x ∷ behind
  pub set : (y : A) → slice_set xs k y ≡ before ++ y ∷ behind

pub split-at : {A : Type 0} (xs : List A) (k : ℕ) (x : A) → slice_get xs k ≡ Some x → SplitAt xs k x
split-at [] k x at = absurd cc
split-at (y ∷ xs) zero x at = record { before = []; behind = xs; is = (let same : y ≡ x = cc in ap (λ t. t ∷ xs) same); set = λ z. refl }
split-at (y ∷ xs) (suc k) x at =
    let more : SplitAt xs k x = split-at xs k x at in
    record { before = y ∷ more.before; behind = more.behind; is = ap (λ t. y ∷ t) more.is; set = λ z. ap (λ t. y ∷ t) (more.set z) }

pub set-same : {A : Type 0} (xs : List A) (k : ℕ) (x : A) → slice_get xs k ≡ Some x → slice_set xs k x ≡ xs
set-same [] k x at = refl
set-same (y ∷ ys) zero x at = (let e : y ≡ x = cc in rw e refl)
set-same (y ∷ ys) (suc k) x at = ap (λ t. y ∷ t) (set-same ys k x at)
