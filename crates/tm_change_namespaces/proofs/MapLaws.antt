-- Maps by number: what is taken out is put back, changed or as it was.
use Rattle.std.proofs.Common.{◌≡◌, ℕ, ◌<◌, ◌≤◌, ◌==◌, Bool, true, false, nat_lt, List, [], ◌∷◌, refl, sym, ap, ◌∙◌, subst, eq-eqb, arith}
use Rattle.std.specs.Prelude.{Option, Some, None, IsSome, if◌then◌else◌}
use Rattle.std.specs.List.{AllByRecursion}
use Rattle.std.proofs.lemmas.Bool.{ne_eqb, eqb-true, ltb-true, ltb-false}
use Rattle.tm_list.specs.Map.{AllAbove}
use Rattle.tm_change_namespaces.specs.AclGroups.{Rising}
use Rattle.tm_rules.specs.Prelude.{at_key, put_key, remove_key}

-- what was put is there
pub put_there : {A : Type 0} (n : ℕ) (v : A) (xs : List (ℕ × A)) → at_key (put_key n v xs) n ≡ Some v
put_there n v [] = let here : (n == n) ≡ true = eq-eqb n n refl in rw here refl
put_there n v (x ∷ xs) = go (put_there n v xs) (nat_lt x.0 n) (x.0 == n) refl refl
  where
    go : at_key (put_key n v xs) n ≡ Some v → (b c : Bool) → nat_lt x.0 n ≡ b → (x.0 == n) ≡ c → at_key (if b then x ∷ put_key n v xs else (if c then (n, v) ∷ xs else (n, v) ∷ x ∷ xs)) n ≡ Some v
    go ih true c h k =
        let less : x.0 < n = ltb-true _ _ h in
        let other : (x.0 == n) ≡ false = ne_eqb _ _ (λ e. omega (arith, less, e)) in
        rw other ih
    go ih false true h k = let here : (n == n) ≡ true = eq-eqb n n refl in rw here refl
    go ih false false h k = let here : (n == n) ≡ true = eq-eqb n n refl in rw here refl

not-below : (m : ℕ) (b : Bool) → nat_lt m m ≡ b → b ≡ false
not-below m true h = let less : m < m = ltb-true _ _ h in absurd (omega (arith, less))
not-below m false h = refl

irreflexive : (m : ℕ) → nat_lt m m ≡ false
irreflexive m = not-below m (nat_lt m m) refl

-- the second value stays
pub put_twice : {A : Type 0} (n : ℕ) (v w : A) (xs : List (ℕ × A)) → put_key n w (put_key n v xs) ≡ put_key n w xs
put_twice n v w [] =
    let not_less : nat_lt n n ≡ false = irreflexive n in
    let here : (n == n) ≡ true = eq-eqb n n refl in
    rw (not_less, here) refl
put_twice n v w (x ∷ xs) = go (put_twice n v w xs) (nat_lt x.0 n) (x.0 == n) refl refl
  where
    go : put_key n w (put_key n v xs) ≡ put_key n w xs → (b c : Bool) → nat_lt x.0 n ≡ b → (x.0 == n) ≡ c
        → put_key n w (if b then x ∷ put_key n v xs else (if c then (n, v) ∷ xs else (n, v) ∷ x ∷ xs)) ≡ (if b then x ∷ put_key n w xs else (if c then (n, w) ∷ xs else (n, w) ∷ x ∷ xs))
    go ih true c h k = rw h (ap (λ t. x ∷ t) ih)
    go ih false true h k =
        let not_less : nat_lt n n ≡ false = irreflexive n in
        let here : (n == n) ≡ true = eq-eqb n n refl in
        rw (not_less, here) refl
    go ih false false h k =
        let not_less : nat_lt n n ≡ false = irreflexive n in
        let here : (n == n) ≡ true = eq-eqb n n refl in
        rw (not_less, here) refl

-- a number below all of them isn't there
above_none : {A : Type 0} (n m : ℕ) (xs : List (ℕ × A)) → n ≤ m → AllAbove (λ (n : ℕ). n) m xs → at_key xs n ≡ None
above_none n m [] le above = refl
above_none n m (x ∷ xs) le above =
    let other : (x.0 == n) ≡ false = ne_eqb _ _ (λ e. omega (arith, above.0, le, e)) in
    rw other (above_none n m xs le above.1)

abbrev pair : {A : Type 0} → ℕ → A → ℕ × A
pair n v = (n, v)

pair_by : {A : Type 0} (n m : ℕ) (v w : A) → n ≡ m → v ≡ w → pair n v ≡ pair m w
pair_by n m v w a b = ap (λ k. pair k v) a ∙ ap (pair m) b

-- what is there, put in its place
pub put_back : {A : Type 0} (n : ℕ) (v : A) (xs : List (ℕ × A)) → Rising xs → at_key xs n ≡ Some v → put_key n v xs ≡ xs
put_back n v [] rises e = absurd cc
put_back n v (x ∷ xs) rises e = go (put_back n v xs rises.1) (nat_lt x.0 n) (x.0 == n) refl refl e
  where
    go : (at_key xs n ≡ Some v → put_key n v xs ≡ xs) → (b c : Bool) → nat_lt x.0 n ≡ b → (x.0 == n) ≡ c → (if c then Some x.1 else at_key xs n) ≡ Some v
        → (if b then x ∷ put_key n v xs else (if c then (n, v) ∷ xs else (n, v) ∷ x ∷ xs)) ≡ x ∷ xs
    go ih true true h k e =
        let less : x.0 < n = ltb-true _ _ h in
        let same : x.0 ≡ n = eqb-true _ _ k in
        absurd (omega (arith, less, same))
    go ih true false h k e = ap (λ t. x ∷ t) (ih e)
    go ih false true h k e =
        let same : n ≡ x.0 = sym (eqb-true _ _ k) in
        let value : v ≡ x.1 = cc in
        ap (λ t. t ∷ xs) (pair_by n x.0 v x.1 same value)
    go ih false false h k e =
        let at_most : n ≤ x.0 = ltb-false _ _ h in
        let none : at_key xs n ≡ None = above_none n x.0 xs at_most rises.0 in
        absurd cc

-- what replaces a placeholder is put in the place of what was there first
pub put_again : {A : Type 0} (n : ℕ) (d v : A) (xs ys zs : List (ℕ × A)) (r : Option A) → ys ≡ put_key n d xs → r ≡ at_key ys n → (IsSome r → zs ≡ put_key n v ys) → zs ≡ put_key n v xs
put_again n d v xs ys zs r is e written =
    let there : r ≡ Some d = e ∙ ap (λ t. at_key t n) is ∙ put_there n d xs in
    written (subst IsSome (sym there) refl) ∙ ap (put_key n v) is ∙ put_twice n d v xs

-- a key that is taken out is gone
pub gone : {A : Type 0} (n : ℕ) (xs : List (ℕ × A)) → Rising xs → at_key (remove_key n xs) n ≡ None
gone n [] rises = refl
gone n (x ∷ xs) rises = go (gone n xs rises.1) (x.0 == n) refl
  where
    go : at_key (remove_key n xs) n ≡ None → (c : Bool) → (x.0 == n) ≡ c → at_key (if c then xs else x ∷ remove_key n xs) n ≡ None
    go ih true k = let same : x.0 ≡ n = eqb-true _ _ k in above_none n x.0 xs (omega (arith, same)) rises.0
    go ih false k = rw k ih

-- a key that isn't there isn't taken out
pub without_none : {A : Type 0} (n : ℕ) (xs : List (ℕ × A)) → at_key xs n ≡ None → remove_key n xs ≡ xs
without_none n [] e = refl
without_none n (x ∷ xs) e = go (without_none n xs) (x.0 == n) e
  where
    go : (at_key xs n ≡ None → remove_key n xs ≡ xs) → (c : Bool) → (if c then Some x.1 else at_key xs n) ≡ None → (if c then xs else x ∷ remove_key n xs) ≡ x ∷ xs
    go ih true e = absurd cc
    go ih false e = ap (λ t. x ∷ t) (ih e)

-- a placeholder that is taken out leaves what is left without what was there first
pub without_put : {A : Type 0} (n : ℕ) (v w : A) (xs : List (ℕ × A)) → Rising xs → at_key xs n ≡ Some w → remove_key n (put_key n v xs) ≡ remove_key n xs
without_put n v w [] rises e = absurd cc
without_put n v w (x ∷ xs) rises e = go (without_put n v w xs rises.1) (nat_lt x.0 n) (x.0 == n) refl refl e
  where
    here : (n == n) ≡ true
    here = eq-eqb n n refl

    go : (at_key xs n ≡ Some w → remove_key n (put_key n v xs) ≡ remove_key n xs) → (b c : Bool) → nat_lt x.0 n ≡ b → (x.0 == n) ≡ c → (if c then Some x.1 else at_key xs n) ≡ Some w
        → remove_key n (if b then x ∷ put_key n v xs else (if c then (n, v) ∷ xs else (n, v) ∷ x ∷ xs)) ≡ (if c then xs else x ∷ remove_key n xs)
    go ih true true h k e =
        let less : x.0 < n = ltb-true _ _ h in
        let same : x.0 ≡ n = eqb-true _ _ k in
        absurd (omega (arith, less, same))
    go ih true false h k e = rw k (ap (λ t. x ∷ t) (ih e))
    go ih false true h k e = rw here refl
    go ih false false h k e =
        let at_most : n ≤ x.0 = ltb-false _ _ h in
        let none : at_key xs n ≡ None = above_none n x.0 xs at_most rises.0 in
        absurd cc

-- each value keeps what it has
pub each_put : {A : Type 0} (P : A → Type 0) (n : ℕ) (v : A) (xs : List (ℕ × A)) → P v → AllByRecursion (λ (pair : ℕ × A). P pair.1) xs → AllByRecursion (λ (pair : ℕ × A). P pair.1) (put_key n v xs)
each_put {A = A} P n v [] h each = (h, tt)
each_put {A = A} P n v (x ∷ xs) h each = go (nat_lt x.0 n) (x.0 == n) (each_put P n v xs h each.1)
  where
    go : (b c : Bool) → AllByRecursion (λ (pair : ℕ × A). P pair.1) (put_key n v xs) → AllByRecursion (λ (pair : ℕ × A). P pair.1) (if b then x ∷ put_key n v xs else (if c then (n, v) ∷ xs else (n, v) ∷ x ∷ xs))
    go true c ih = (each.0, ih)
    go false true ih = (h, each.1)
    go false false ih = (h, each)

pub each_without : {A : Type 0} (P : A → Type 0) (n : ℕ) (xs : List (ℕ × A)) → AllByRecursion (λ (pair : ℕ × A). P pair.1) xs → AllByRecursion (λ (pair : ℕ × A). P pair.1) (remove_key n xs)
each_without {A = A} P n [] each = tt
each_without {A = A} P n (x ∷ xs) each = go (x.0 == n) (each_without P n xs each.1)
  where
    go : (c : Bool) → AllByRecursion (λ (pair : ℕ × A). P pair.1) (remove_key n xs) → AllByRecursion (λ (pair : ℕ × A). P pair.1) (if c then xs else x ∷ remove_key n xs)
    go true ih = each.1
    go false ih = (each.0, ih)

-- the value at a number has what each value has
pub each_at : {A : Type 0} (P : A → Type 0) (n : ℕ) (v : A) (xs : List (ℕ × A)) → at_key xs n ≡ Some v → AllByRecursion (λ (pair : ℕ × A). P pair.1) xs → P v
each_at P n v [] e each = absurd cc
each_at P n v (x ∷ xs) e each = go (λ h. each_at P n v xs h each.1) (x.0 == n) e
  where
    go : (at_key xs n ≡ Some v → P v) → (c : Bool) → (if c then Some x.1 else at_key xs n) ≡ Some v → P v
    go ih true e = subst P (let same : x.1 ≡ v = cc in same) each.0
    go ih false e = ih e
