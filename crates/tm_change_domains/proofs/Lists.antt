-- A list with one element changed in its place.
use Rattle.std.proofs.Common.{◌≡◌, ℕ, zero, suc, ◌+◌, ◌<◌, get_or, arith, subst, Bool, true, false, List, [], ◌∷◌, ◌++◌, map, length, refl, sym, ap}
use Rattle.std.specs.Prelude.{Some, slice_get, slice_set, if◌then◌else◌}
use Rattle.std.specs.List.{position_from, AllByRecursion}
use Rattle.tm_rules.specs.Prelude.{changed_at}

module _ {A : Type 0} where
  -- the element at a place that is there
  pub get_there : (xs : List A) (k : ℕ) (x d : A) → slice_get xs k ≡ Some x → get_or xs k d ≡ x
  get_there [] k x d e = absurd cc
  get_there (y ∷ ys) zero x d e = cc
  get_there (y ∷ ys) (suc k) x d e = get_there ys k x d e

  -- at a place that is there something stands
  pub stands : (xs : List A) (k : ℕ) (d : A) → k < length xs → slice_get xs k ≡ Some (get_or xs k d)
  stands [] k d less = absurd (omega (arith, less))
  stands (y ∷ ys) zero d less = refl
  stands (y ∷ ys) (suc k) d less = stands ys k d (omega (arith, less))

  -- a place where something stands is there
  pub there_less : (xs : List A) (k : ℕ) (x : A) → slice_get xs k ≡ Some x → k < length xs
  there_less [] k x e = absurd cc
  there_less (y ∷ ys) zero x e = omega arith
  there_less (y ∷ ys) (suc k) x e = let ih = there_less ys k x e in omega (arith, ih)

  -- the element that stands there, put there
  pub same_there : (xs : List A) (k : ℕ) (x : A) → slice_get xs k ≡ Some x → changed_at k (λ y. x) xs ≡ xs
  same_there [] k x e = refl
  same_there (y ∷ ys) zero x e = let same : y ≡ x = cc in ap (λ t. t ∷ ys) (sym same)
  same_there (y ∷ ys) (suc k) x e = ap (λ t. y ∷ t) (same_there ys k x e)

  -- another element in a place
  pub set_changed : (xs : List A) (k : ℕ) (y : A) → slice_set xs k y ≡ changed_at k (λ x. y) xs
  set_changed [] k y = refl
  set_changed (x ∷ xs) zero y = refl
  set_changed (x ∷ xs) (suc k) y = ap (λ t. x ∷ t) (set_changed xs k y)

  -- the element in a place changed
  pub get_changed : (f : A → A) (xs : List A) (k : ℕ) (d : A) → slice_set xs k (f (get_or xs k d)) ≡ changed_at k f xs
  get_changed f [] k d = refl
  get_changed f (x ∷ xs) zero d = refl
  get_changed f (x ∷ xs) (suc k) d = ap (λ t. x ∷ t) (get_changed f xs k d)

  -- the first element that passes stands in the list
  within-from : (test : A → Bool) (i : ℕ) (xs : List A) (k : ℕ) → position_from test i xs ≡ Some k → k < i + length xs
  within-from test i [] k e = absurd cc
  within-from test i (x ∷ xs) k e = go (within-from test (i + 1) xs k) (test x) refl e
    where
      go : (position_from test (i + 1) xs ≡ Some k → k < i + 1 + length xs) → (b : Bool) → test x ≡ b → (if b then Some i else position_from test (i + 1) xs) ≡ Some k → k < i + suc (length xs)
      go ih true h e = let same : i ≡ k = cc in omega (arith, same)
      go ih false h e = let less = ih e in omega (arith, less)

  pub found_within : (test : A → Bool) (xs : List A) (k : ℕ) → position_from test 0 xs ≡ Some k → k < length xs
  found_within test xs k e = let less = within-from test 0 xs k e in omega (arith, less)

  -- the element at a place has what each element has
  pub each_at : (P : A → Type 0) (xs : List A) (k : ℕ) (x : A) → AllByRecursion P xs → slice_get xs k ≡ Some x → P x
  each_at P [] k x each e = absurd cc
  each_at P (y ∷ ys) zero x each e = subst P (let same : y ≡ x = cc in same) each.0
  each_at P (y ∷ ys) (suc k) x each e = each_at P ys k x each.1 e

  -- and so does a new last one
  pub each_last : (P : A → Type 0) (xs : List A) (y : A) → AllByRecursion P xs → P y → AllByRecursion P (xs ++ y ∷ [])
  each_last P [] y each h = (h, tt)
  each_last P (x ∷ xs) y each h = (each.0, each_last P xs y each.1 h)

-- a function of each element
pub map_changed : {A B : Type 0} (f : A → B) (xs : List A) (k : ℕ) (x : A) → map f (changed_at k (λ y. x) xs) ≡ changed_at k (λ y. f x) (map f xs)
map_changed f [] k x = refl
map_changed f (y ∷ ys) zero x = refl
map_changed f (y ∷ ys) (suc k) x = ap (λ t. f y ∷ t) (map_changed f ys k x)

pub map_there : {A B : Type 0} (f : A → B) (xs : List A) (k : ℕ) (x : A) → slice_get xs k ≡ Some x → slice_get (map f xs) k ≡ Some (f x)
map_there f [] k x e = absurd cc
map_there f (y ∷ ys) zero x e = let same : y ≡ x = cc in ap (λ t. Some (f t)) same
map_there f (y ∷ ys) (suc k) x e = map_there f ys k x e
