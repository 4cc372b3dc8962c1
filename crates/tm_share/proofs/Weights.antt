-- What lists weigh.
use Rattle.std.proofs.Common.{◌≡◌, ℕ, ◌+◌, List, [], ◌∷◌, ◌++◌, map, length, refl, ap, arith}
use Rattle.tm_share.specs.Weights.{weigh}

module _ {J : Type 0} where
  pub weigh-append : (h : J → ℕ) (xs ys : List J) → weigh h (xs ++ ys) ≡ weigh h xs + weigh h ys
  weigh-append h [] ys = omega arith
  weigh-append h (x ∷ xs) ys = (let r = weigh-append h xs ys in omega arith)

  pub weigh-snoc : (h : J → ℕ) (xs : List J) (x : J) → weigh h (xs ++ x ∷ []) ≡ weigh h xs + h x
  weigh-snoc h [] x = omega arith
  weigh-snoc h (y ∷ ys) x = (let r = weigh-snoc h ys x in omega arith)

  -- a job more in the middle of a list
  pub weigh-inside : (h : J → ℕ) (job : J) (xs ys : List J) → weigh h ((xs ++ job ∷ []) ++ ys) ≡ weigh h (xs ++ ys) + h job
  weigh-inside h job xs ys = omega (arith, weigh-append h (xs ++ job ∷ []) ys, weigh-snoc h xs job, weigh-append h xs ys)

  -- where each item weighs 1, a list weighs its length
  pub weigh-one : (xs : List J) → weigh (λ _. 1) xs ≡ length xs
  weigh-one [] = refl
  weigh-one (x ∷ xs) = (let r = weigh-one xs in omega arith)

  pub weigh-map : (h : ℕ → ℕ) (f : J → ℕ) (xs : List J) → weigh h (map f xs) ≡ weigh (λ x. h (f x)) xs
  weigh-map h f [] = refl
  weigh-map h f (x ∷ xs) = ap (λ n. h (f x) + n) (weigh-map h f xs)
