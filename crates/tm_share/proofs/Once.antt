-- Each number of a forest is taken once, where what was taken is what was put.
use Rattle.std.proofs.Common.{◌≡◌, ℕ, zero, suc, ◌+◌, ◌<◌, ◌≤◌, ◌==◌, Bool, true, false, List, [], ◌∷◌, map, refl, ap, sym, ◌∙◌, subst, inl, inr, arith}
use Rattle.std.proofs.lemmas.Bool.{false≢true}
use Rattle.std.proofs.lemmas.Bool.Decides.{nat_tests}
use Rattle.std.specs.Prelude.{if◌then◌else◌}
use Rattle.tm_share.specs.Weights.{weigh, weight_at, times, WeighSame, IsAmong}
use Rattle.tm_share.specs.Forests.{weigh_children, sum_below, IsForest}
use Rattle.tm_share.proofs.Weights.{weigh-map}

-- h, but 0 at n
abbrev without : ℕ → (ℕ → ℕ) → ℕ → ℕ
without n h x = if x == n then 0 else h x

split_one : (h : ℕ → ℕ) (n x : ℕ) (b : Bool) → (x == n) ≡ b → h x ≡ (if b then 0 else h x) + (if b then h n else 0)
split_one h n x true e = (let same : x ≡ n = grind (arith, nat_tests) in let at = ap h same in omega arith)
split_one h n x false e = omega arith

weigh_split : (h : ℕ → ℕ) (n : ℕ) (xs : List ℕ) → weigh h xs ≡ weigh (without n h) xs + weigh (weight_at n (h n)) xs
weigh_split h n [] = refl
weigh_split h n (x ∷ xs) = (let one : h x ≡ without n h x + weight_at n (h n) x = split_one h n x (x == n) refl in let r = weigh_split h n xs in omega arith)

weight_none : (n k x : ℕ) (b : Bool) → ◌≡◌ {A = ℕ} (if b then 1 else 0) 0 → ◌≡◌ {A = ℕ} (if b then k else 0) 0
weight_none n k x true e = absurd (omega arith)
weight_none n k x false e = refl

-- what is not there weighs nothing
weigh_none : (n k : ℕ) (xs : List ℕ) → times n xs ≡ 0 → weigh (weight_at n k) xs ≡ 0
weigh_none n k [] e = refl
weigh_none n k (x ∷ xs) e =
    let one : weight_at n 1 x ≡ 0 = omega arith in
    let here : weight_at n k x ≡ 0 = weight_none n k x (x == n) one in
    let r = weigh_none n k xs (omega arith) in
    omega arith

weigh_once_next : (n k x : ℕ) (xs : List ℕ) (b : Bool) → (if b then 1 else 0) + times n xs ≡ 1 → (times n xs ≡ 1 → weigh (weight_at n k) xs ≡ k) → (if b then k else 0) + weigh (weight_at n k) xs ≡ k
weigh_once_next n k x xs true e rest = (let none = weigh_none n k xs (omega arith) in omega arith)
weigh_once_next n k x xs false e rest = (let r = rest (omega arith) in omega arith)

-- what is there once weighs what it weighs
weigh_once : (n k : ℕ) (xs : List ℕ) → times n xs ≡ 1 → weigh (weight_at n k) xs ≡ k
weigh_once n k [] e = absurd (omega arith)
weigh_once n k (x ∷ xs) e = weigh_once_next n k x xs (x == n) e (weigh_once n k xs)

weigh_zero : (h : ℕ → ℕ) (xs : List ℕ) → ((p : ℕ) → h p ≡ 0) → weigh h xs ≡ 0
weigh_zero h [] zero_at = refl
weigh_zero h (x ∷ xs) zero_at = (let here = zero_at x in let r = weigh_zero h xs zero_at in omega arith)

sum_same : (n : ℕ) (f g : ℕ → ℕ) → ((p : ℕ) → p < n → f p ≡ g p) → sum_below n f ≡ sum_below n g
sum_same zero f g same = refl
sum_same (suc n) f g same = (let r = sum_same n f g (λ p lt. same p (omega arith)) in let here = same n (omega arith) in omega arith)

without_above : (h : ℕ → ℕ) (n p : ℕ) (b : Bool) → (p == n) ≡ b → n ≤ p → ((q : ℕ) → suc n ≤ q → h q ≡ 0) → (if b then 0 else h p) ≡ 0
without_above h n p true e le beyond = refl
without_above h n p false e le beyond = (let apart : ¬ (p ≡ n) = (λ same. grind (arith, nat_tests)) in beyond p (omega arith))

without_below : (h : ℕ → ℕ) (n p : ℕ) (b : Bool) → (p == n) ≡ b → p < n → (if b then 0 else h p) ≡ h p
without_below h n p true e lt = (let same : p ≡ n = grind (arith, nat_tests) in absurd (omega arith))
without_below h n p false e lt = refl

-- where each number below n is there once, and h is 0 from n on, the weight is the sum of h below n
weigh_below : (n : ℕ) (h : ℕ → ℕ) (xs : List ℕ) → ((p : ℕ) → p < n → times p xs ≡ 1) → ((p : ℕ) → n ≤ p → h p ≡ 0) → weigh h xs ≡ sum_below n h
weigh_below zero h xs once beyond = weigh_zero h xs (λ p. beyond p (omega arith))
weigh_below (suc n) h xs once beyond =
    let split = weigh_split h n xs in
    let here = weigh_once n (h n) xs (once n (omega arith)) in
    let rest = weigh_below n (without n h) xs (λ p lt. once p (omega arith)) (λ p le. without_above h n p (p == n) refl le beyond) in
    let same = sum_same n (without n h) h (λ p lt. without_below h n p (p == n) refl lt) in
    omega arith

-- a number that is not above 0 is 0
not_above : (n : ℕ) → ¬ (0 < n) → n ≡ 0
not_above zero isnt = refl
not_above (suc n) isnt = absurd (isnt (omega arith))

below_next : (n p : ℕ) (b : Bool) → (p == n) ≡ b → p < suc n → (P : ℕ → Type 0) → ((q : ℕ) → q < n → P q) → P n → P p
below_next n p true e lt P low at = (let same : n ≡ p = grind (arith, nat_tests) in subst P same at)
below_next n p false e lt P low at = (let apart : ¬ (p ≡ n) = (λ same. grind (arith, nat_tests)) in low p (omega arith))

once_below : (count : ℕ) (roots : List ℕ) (children : ℕ → List ℕ) (taken : List ℕ) → IsForest count roots children
    → ((h : ℕ → ℕ) → weigh h taken ≡ weigh h roots + weigh_children h children taken)
    → (n : ℕ) → n ≤ count → (p : ℕ) → p < n → times p taken ≡ 1
once_below count roots children taken forest balance zero le p lt = absurd (omega arith)
once_below count roots children taken forest balance (suc n) le p lt =
    let low = once_below count roots children taken forest balance n (omega arith) in
    let sum = weigh_below n (λ q. times n (children q)) taken low (λ q out. not_above (times n (children q)) (λ above. (let l = forest.later q n above in omega arith))) in
    let all = balance (weight_at n 1) in
    let one = forest.one n (omega arith) in
    below_next n p (p == n) refl lt (λ q. times q taken ≡ 1) low (omega arith)

mark_same : (b : Bool) → b ≡ true → ◌≡◌ {A = ℕ} (if b then 1 else 0) 1
mark_same true e = refl
mark_same false e = absurd (false≢true e)

module _ {J : Type 0} where
  pub each-once : (number : J → ℕ) (count : ℕ) (roots : List ℕ) (children : ℕ → List ℕ) (put taken : List J) → IsForest count roots children
      → WeighSame put taken
      → ((h : ℕ → ℕ) → weigh h (map number put) ≡ weigh h roots + weigh_children h children (map number taken))
      → (p : ℕ) → p < count → times p (map number taken) ≡ 1
  each-once number count roots children put taken forest same made p lt =
      once_below count roots children (map number taken) forest
      (λ h. weigh-map h number taken ∙ sym (same (λ x. h (number x))) ∙ sym (weigh-map h number put) ∙ made h)
      count (omega arith) p lt

  -- 1 for the job that is looked for, else 0
  abbrev mark : (J → J → Bool) → J → J → ℕ
  mark same x y = if same x y then 1 else 0

  among_weighs : (same : J → J → Bool) → ((x : J) → same x x ≡ true) → (x : J) (xs : List J) → IsAmong x xs → 0 < weigh (mark same x) xs
  among_weighs same itself x [] among = absurd among
  among_weighs same itself x (y ∷ ys) (inl is) =
      let one : mark same x y ≡ 1 = subst (λ z. mark same x z ≡ 1) is (mark_same (same x x) (itself x)) in
      omega arith
  among_weighs same itself x (y ∷ ys) (inr more) = (let r = among_weighs same itself x ys more in omega arith)

  weighs_here : (same : J → J → Bool) → ((x y : J) → same x y ≡ true → x ≡ y) → (x y : J) (ys : List J) (b : Bool) → same x y ≡ b
      → (0 < weigh (mark same x) ys → IsAmong x ys) → 0 < (if b then 1 else 0) + weigh (mark same x) ys → IsAmong x (y ∷ ys)
  weighs_here same sound x y ys true e later some = inl (sound x y e)
  weighs_here same sound x y ys false e later some = (let more : 0 < 0 + weigh (mark same x) ys = some in inr (later (omega arith)))

  weighs_among : (same : J → J → Bool) → ((x y : J) → same x y ≡ true → x ≡ y) → (x : J) (xs : List J) → 0 < weigh (mark same x) xs → IsAmong x xs
  weighs_among same sound x [] some = absurd (omega arith)
  weighs_among same sound x (y ∷ ys) some = weighs_here same sound x y ys (same x y) refl (weighs_among same sound x ys) some

  pub taken-was-put : (same : J → J → Bool) → ((x : J) → same x x ≡ true) → ((x y : J) → same x y ≡ true → x ≡ y) → (put taken : List J) → WeighSame put taken
      → (x : J) → IsAmong x taken → IsAmong x put
  taken-was-put same itself sound put taken equal x among =
      let some = among_weighs same itself x taken among in
      weighs_among same sound x put (subst (λ n. 0 < n) (sym (equal (mark same x))) some)
