-- The sooner of what is found first at the places of two tests is what is found first at those of
-- either.
use Rattle.std.proofs.Common.{◌≡◌, ℕ, suc, ◌≤◌, Bool, true, false, ◌||◌, if◌then◌else◌, List, [], ◌∷◌, refl, ap, ◌∙◌, arith}
use Rattle.std.proofs.lemmas.Bool.{lt-ltb, le-ltb}
use Rattle.std.specs.Prelude.{Option, Some, None, nat_lt, option_map}
use Rattle.std.specs.Option.{option_or}
use Rattle.tm_indexed.specs.Candidates.{sooner}
use Rattle.tm_index.proofs.PlaceLaws.{first_numbered, only}

module _ {A B : Type 0} (g : A → Option B) where
  -- the place of an element that has something
  abbrev pub numbered : ℕ → A → Option (ℕ × B)
  numbered n x = option_map (λ v. (n, v)) (g x)

  -- what is found stands no sooner than where the search begins
  later : (test : A → Bool) (n : ℕ) (xs : List A) (found : ℕ × B) → first_numbered (only test numbered) n xs ≡ Some found → n ≤ found.0
  later test n [] found e = absurd cc
  later test n (x ∷ xs) found e = go (test x) (g x) refl refl (later test (suc n) xs found) e
    where
      go : (b : Bool) (o : Option B) → test x ≡ b → g x ≡ o → (first_numbered (only test numbered) (suc n) xs ≡ Some found → suc n ≤ found.0)
          → option_or (if b then option_map (λ v. (n, v)) o else None) (first_numbered (only test numbered) (suc n) xs) ≡ Some found → n ≤ found.0
      go true (Some v) h k ih e2 = let same : n ≡ found.0 = ap (λ (o : Option (ℕ × B)). place_or o n) e2 in omega (arith, same)
        where
          place_or : Option (ℕ × B) → ℕ → ℕ
          place_or None d = d
          place_or (Some r) d = r.0
      go true None h k ih e2 = let after = ih e2 in omega (arith, after)
      go false o h k ih e2 = let after = ih e2 in omega (arith, after)

  -- the first comes sooner than what is found later
  first-wins : (n : ℕ) (v : B) (o : Option (ℕ × B)) → ((r : ℕ × B) → o ≡ Some r → suc n ≤ r.0) → sooner (Some (n, v)) o ≡ Some (n, v)
  first-wins n v None after = refl
  first-wins n v (Some r) after = let less = after r refl in let no : nat_lt r.0 n ≡ false = le-ltb r.0 n (omega (arith, less)) in rw no refl

  second-wins : (n : ℕ) (v : B) (o : Option (ℕ × B)) → ((r : ℕ × B) → o ≡ Some r → suc n ≤ r.0) → sooner o (Some (n, v)) ≡ Some (n, v)
  second-wins n v None after = refl
  second-wins n v (Some r) after = let less = after r refl in let yes : nat_lt n r.0 ≡ true = lt-ltb n r.0 (omega (arith, less)) in rw yes refl

  same-wins : (n : ℕ) (v : B) → sooner (Some (n, v)) (Some (n, v)) ≡ Some (n, v)
  same-wins n v = let no : nat_lt n n ≡ false = le-ltb n n (omega arith) in rw no refl

  -- the sooner of what two tests let be found is what either lets be found
  pub either_found : (one two : A → Bool) (n : ℕ) (xs : List A) → sooner (first_numbered (only one numbered) n xs) (first_numbered (only two numbered) n xs) ≡ first_numbered (only (λ x. one x || two x) numbered) n xs
  either_found one two n [] = refl
  either_found one two n (x ∷ xs) = go (one x) (two x) (g x) (later one (suc n) xs) (later two (suc n) xs) (either_found one two (suc n) xs)
    where
      go : (a b : Bool) (o : Option B)
          → ((r : ℕ × B) → first_numbered (only one numbered) (suc n) xs ≡ Some r → suc n ≤ r.0)
          → ((r : ℕ × B) → first_numbered (only two numbered) (suc n) xs ≡ Some r → suc n ≤ r.0)
          → sooner (first_numbered (only one numbered) (suc n) xs) (first_numbered (only two numbered) (suc n) xs) ≡ first_numbered (only (λ y. one y || two y) numbered) (suc n) xs
          → sooner (option_or (if a then option_map (λ v. (n, v)) o else None) (first_numbered (only one numbered) (suc n) xs)) (option_or (if b then option_map (λ v. (n, v)) o else None) (first_numbered (only two numbered) (suc n) xs))
          ≡ option_or (if a || b then option_map (λ v. (n, v)) o else None) (first_numbered (only (λ y. one y || two y) numbered) (suc n) xs)
      go true true (Some v) p q ih = same-wins n v
      go true false (Some v) p q ih = first-wins n v (first_numbered (only two numbered) (suc n) xs) q
      go false true (Some v) p q ih = second-wins n v (first_numbered (only one numbered) (suc n) xs) p
      go false false (Some v) p q ih = ih
      go true true None p q ih = ih
      go true false None p q ih = ih
      go false true None p q ih = ih
      go false false None p q ih = ih

  -- a test that lets everything be found which is there
  pub all_found : (test : A → Bool) → ((x : A) → test x ≡ false → g x ≡ None) → (n : ℕ) (xs : List A) → first_numbered (only test numbered) n xs ≡ first_numbered numbered n xs
  all_found test none n [] = refl
  all_found test none n (x ∷ xs) = go (test x) (g x) refl refl (all_found test none (suc n) xs)
    where
      go : (b : Bool) (o : Option B) → test x ≡ b → g x ≡ o → first_numbered (only test numbered) (suc n) xs ≡ first_numbered numbered (suc n) xs
          → option_or (if b then option_map (λ v. (n, v)) o else None) (first_numbered (only test numbered) (suc n) xs) ≡ option_or (option_map (λ v. (n, v)) o) (first_numbered numbered (suc n) xs)
      go true o h k ih = ap (option_or (option_map (λ v. (n, v)) o)) ih
      go false None h k ih = ih
      go false (Some v) h k ih = let nothing : g x ≡ None = none x h in absurd cc

  -- tests that agree let the same be found
  pub same_found : (one two : A → Bool) → ((x : A) → one x ≡ two x) → (n : ℕ) (xs : List A) → first_numbered (only one numbered) n xs ≡ first_numbered (only two numbered) n xs
  same_found one two same n [] = refl
  same_found one two same n (x ∷ xs) =
      ap (λ b. option_or (if b then numbered n x else None) (first_numbered (only one numbered) (suc n) xs)) (same x)
      ∙ ap (option_or (if two x then numbered n x else None)) (same_found one two same (suc n) xs)
