-- What holds at each place of a part and of the rest holds at each place of both.
use Rattle.std.proofs.Common.{◌≡◌, ℕ, zero, suc, ◌+◌, ◌<◌, List, [], ◌∷◌, ◌++◌, length, get_or, refl, subst, arith}

-- a list's places, in the front and in the rest
get-front : {A : Type 0} (xs ys : List A) (k : ℕ) (d : A) → k < length xs → get_or (xs ++ ys) k d ≡ get_or xs k d
get-front [] ys k d lt = absurd (omega (arith, lt))
get-front (x ∷ xs) ys zero d lt = refl
get-front (x ∷ xs) ys (suc k) d lt = get-front xs ys k d (omega (arith, lt))

get-rest : {A : Type 0} (xs ys : List A) (j k : ℕ) (d : A) → j ≡ length xs + k → get_or (xs ++ ys) j d ≡ get_or ys k d
get-rest [] ys j k d is = let same : j ≡ k = omega (arith, is) in rw same refl
get-rest (x ∷ xs) ys zero k d is = absurd (omega (arith, is))
get-rest (x ∷ xs) ys (suc j) k d is = get-rest xs ys j k d (omega (arith, is))

long-both : {A : Type 0} (xs ys : List A) → length (xs ++ ys) ≡ length xs + length ys
long-both [] ys = omega arith
long-both (x ∷ xs) ys = let h = long-both xs ys in omega (arith, h)

-- which of the two a place is in
data Where (low k : ℕ) : Type 0 where
  front : k < low → Where low k
  rest : (j : ℕ) → k ≡ low + j → Where low k

where-is : (low k : ℕ) → Where low k
where-is zero k = rest k (omega arith)
where-is (suc low) zero = front (omega arith)
where-is (suc low) (suc k) = go (where-is low k)
  where
    go : Where low k → Where (suc low) (suc k)
    go (front lt) = front (omega (arith, lt))
    go (rest j is) = rest j (omega (arith, is))

module _ {A : Type 0} (P : ℕ → A → Type 0) (begin : ℕ) (all xs ys : List A) (is : all ≡ xs ++ ys) (each : (k : ℕ) (d : A) → k < length all → P (begin + k) (get_or all k d)) where
  -- of the front
  pub cut-front : (k : ℕ) (d : A) → k < length xs → P (begin + k) (get_or xs k d)
  cut-front k d lt =
      let long : length all ≡ length xs + length ys = rw is (long-both xs ys) in
      subst (λ x. P (begin + k) x) (rw is (get-front xs ys k d lt)) (each k d (omega (arith, long, lt)))

  -- of the rest
  pub cut-rest : (end : ℕ) → end ≡ begin + length xs → (k : ℕ) (d : A) → k < length ys → P (end + k) (get_or ys k d)
  cut-rest end at k d lt =
      let long : length all ≡ length xs + length ys = rw is (long-both xs ys) in
      let place : begin + (length xs + k) ≡ end + k = omega (arith, at) in
      subst (λ n. P n (get_or ys k d)) place
      (subst (λ x. P (begin + (length xs + k)) x) (rw is (get-rest xs ys (length xs + k) k d refl)) (each (length xs + k) d (omega (arith, long, lt))))

-- of both
pub glue-long : {A : Type 0} (all xs ys xs' ys' : List A) → all ≡ xs ++ ys → length xs' ≡ length xs → length ys' ≡ length ys → length (xs' ++ ys') ≡ length all
glue-long all xs ys xs' ys' is long same = rw is (let h = long-both xs ys in let k = long-both xs' ys' in omega (arith, h, k, long, same))

pub glue : {A : Type 0} (P : ℕ → A → A → Type 0) (begin end : ℕ) (all xs ys new xs' ys' : List A) → all ≡ xs ++ ys → new ≡ xs' ++ ys' → length xs' ≡ length xs → end ≡ begin + length xs → ((k : ℕ) (d : A) → k < length xs → P (begin + k) (get_or xs k d) (get_or xs' k d)) → ((k : ℕ) (d : A) → k < length ys → P (end + k) (get_or ys k d) (get_or ys' k d)) → (k : ℕ) (d : A) → k < length all → P (begin + k) (get_or all k d) (get_or new k d)
glue P begin end all xs ys new xs' ys' is are long at front-holds rest-holds k d lt = rw (is, are) (go (where-is (length xs) k))
  where
    total : length all ≡ length xs + length ys
    total = rw is (long-both xs ys)

    go : Where (length xs) k → P (begin + k) (get_or (xs ++ ys) k d) (get_or (xs' ++ ys') k d)
    go (front low) = rw (get-front xs ys k d low, get-front xs' ys' k d (omega (arith, long, low))) (front-holds k d low)
    go (rest j here) =
        let place : end + j ≡ begin + k = omega (arith, at, here) in
        rw (get-rest xs ys k j d here, get-rest xs' ys' k j d (omega (arith, here, long)), ← place) (rest-holds j d (omega (arith, total, lt, here)))
