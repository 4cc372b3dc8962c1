-- Where the passes have made as many steps as there are, each has made just those of its makers,
-- and none is left over.
use Rattle.std.proofs.Common.{◌≡◌, ◌≤◌, ◌<◌, ℕ, zero, suc, ◌+◌, List, [], ◌∷◌, length, Bool, true, false, refl, ap, ◌∙◌, arith}
use Rattle.std.specs.Prelude.{Option, Some, None, if◌then◌else◌, ◌==◌, slice_get, flat_map, sum_by}
use Rattle.std.specs.List.{AllByRecursion}
use Rattle.std.specs.Option.{option_map_or}
use Rattle.std.proofs.lemmas.Bool.{eq-eqb, ne_eqb, eqb-true}
use Rattle.std.proofs.lemmas.List.Sums.{sum_by-cons}
use Rattle.tm_rules.specs.Types.{Made, Maker}
use Rattle.tm_rules.specs.Prelude.{numbered}
use Rattle.tm_legal.specs.Prelude.{times}
use Rattle.tm_legal.proofs.Laws.{times-append}
use Rattle.tm_made.specs.Made.{numbers_from}
use Rattle.tm_joint.specs.Makers.{Claims, EachClaims, belongs, owned, EachIsOwned, times_made}
use Rattle.tm_joint.proofs.Rising.{Passes, Within, rising-inside, times_passed, times-low, times-numbers}

module _ (who : Maker → Option ℕ) where
  -- what a pass claims passes the test of its makers
  claims-pass : (i : ℕ) (list : List Made) (ns : List ℕ) → AllByRecursion (λ n. (made : Made) × (numbered list n ≡ Some made) × (who made.maker ≡ Some i)) ns → AllByRecursion (Passes (belongs who i) 1 list) ns
  claims-pass i list [] all = tt
  claims-pass i list (n ∷ ns) all = (one n all.0, claims-pass i list ns all.1)
    where
      one : (k : ℕ) → (made : Made) × (numbered list k ≡ Some made) × (who made.maker ≡ Some i) → Passes (belongs who i) 1 list k
      one zero (made, at, is) = absurd cc
      one (suc k) (made, at, is) = (k, made, omega arith, at, rw is (eq-eqb i i refl))

  -- a pass claims at most the steps of its makers
  pub claims-within : (i : ℕ) (list : List Made) (ns : List ℕ) → Claims who i list ns → Within ns (owned who i list)
  claims-within i list ns claims = rising-inside (belongs who i) 0 list ns claims.0 (claims-pass i list ns claims.1)

  -- Sums

  -- how many steps the passes have made
  total : List (List ℕ) → ℕ
  total [] = 0
  total (ns ∷ passes) = length ns + total passes

  total-is : (passes : List (List ℕ)) → sum_by (λ (ns : List ℕ). length ns) passes ≡ total passes
  unfolding total
  total-is [] = refl
  total-is (ns ∷ passes) = sum_by-cons (λ (ms : List ℕ). length ms) ns passes ∙ ap (λ k. length ns + k) (total-is passes)

  -- how many steps the makers of so many passes have, from pass i on
  owned_sum : ℕ → ℕ → List Made → List (List ℕ) → ℕ
  owned_sum i n list [] = 0
  owned_sum i n list (ns ∷ passes) = length (numbers_from n (belongs who i) list) + owned_sum (suc i) n list passes

  -- to how many of these passes a step belongs
  hits : ℕ → Made → List (List ℕ) → ℕ
  hits i made [] = 0
  hits i made (ns ∷ passes) = (if belongs who i made then 1 else 0) + hits (suc i) made passes

  -- a step belongs to one pass at most
  hits-none : (i : ℕ) (made : Made) (passes : List (List ℕ)) (j : ℕ) → who made.maker ≡ Some j → j < i → hits i made passes ≡ 0
  unfolding hits
  hits-none i made [] j is lt = refl
  hits-none i made (ns ∷ passes) j is lt = rw (is, ne_eqb j i (λ same. absurd (omega arith)), hits-none (suc i) made passes j is (omega arith)) (omega arith)

  hits-few : (i : ℕ) (made : Made) (passes : List (List ℕ)) → hits i made passes ≤ 1
  unfolding hits
  hits-few i made [] = omega arith
  hits-few i made (ns ∷ passes) = by_owner (who made.maker) refl (hits-few (suc i) made passes)
    where
      by_pass : (j : ℕ) → who made.maker ≡ Some j → (b : Bool) → (j == i) ≡ b → hits (suc i) made passes ≤ 1 → (if b then 1 else 0) + hits (suc i) made passes ≤ 1
      by_pass j is true e ih = rw (hits-none (suc i) made passes j is (let same : j ≡ i = eqb-true j i e in omega arith)) (omega arith)
      by_pass j is false e ih = omega arith

      by_owner : (o : Option ℕ) → who made.maker ≡ o → hits (suc i) made passes ≤ 1 → (if option_map_or (λ owner. owner == i) o false then 1 else 0) + hits (suc i) made passes ≤ 1
      by_owner None is ih = omega arith
      by_owner (Some j) is ih = by_pass j is (j == i) refl ih

  owned_sum-none : (i n : ℕ) (passes : List (List ℕ)) → owned_sum i n [] passes ≡ 0
  unfolding owned_sum
  owned_sum-none i n [] = refl
  owned_sum-none i n (ns ∷ passes) = rw (owned_sum-none (suc i) n passes) (omega arith)

  owned_sum-cons : (i n : ℕ) (made : Made) (list : List Made) (passes : List (List ℕ)) → owned_sum i n (made ∷ list) passes ≡ hits i made passes + owned_sum i (suc n) list passes
  unfolding owned_sum hits
  owned_sum-cons i n made list [] = omega arith
  owned_sum-cons i n made list (ns ∷ passes) = go (belongs who i made) (owned_sum-cons (suc i) n made list passes)
    where
      ps : List ℕ
      ps = numbers_from (suc n) (belongs who i) list

      go : (b : Bool) → owned_sum (suc i) n (made ∷ list) passes ≡ hits (suc i) made passes + owned_sum (suc i) (suc n) list passes → length (if b then n ∷ ps else ps) + owned_sum (suc i) n (made ∷ list) passes ≡ ((if b then 1 else 0) + hits (suc i) made passes) + (length ps + owned_sum (suc i) (suc n) list passes)
      go true ih = omega arith
      go false ih = omega arith

  -- the makers of all passes have no more steps than there are
  owners-few : (i n : ℕ) (list : List Made) (passes : List (List ℕ)) → owned_sum i n list passes ≤ length list
  owners-few i n [] passes = rw (owned_sum-none i n passes) (omega arith)
  owners-few i n (made ∷ list) passes = rw (owned_sum-cons i n made list passes) (omega (arith, hits-few i made passes, owners-few i (suc n) list passes))

  -- Equalities

  claims-few : (i : ℕ) (list : List Made) (passes : List (List ℕ)) → EachClaims who i list passes → total passes ≤ owned_sum i 1 list passes
  unfolding total owned_sum
  claims-few i list [] h = omega arith
  claims-few i list (ns ∷ passes) h = omega (arith, (claims-within i list ns h.0).few, claims-few (suc i) list passes h.1)

  -- bounds whose sums are equal are equalities
  all-equal : (i : ℕ) (list : List Made) (passes : List (List ℕ)) → EachClaims who i list passes → owned_sum i 1 list passes ≤ total passes → EachIsOwned who i list passes
  unfolding total owned_sum
  all-equal i list [] h le = tt
  all-equal i list (ns ∷ passes) h le =
      let first : Within ns (owned who i list) = claims-within i list ns h.0 in
      let rest = claims-few (suc i) list passes h.1 in
      let few = first.few in
      (first.same (omega arith), all-equal (suc i) list passes h.1 (omega arith))

  module _ (list : List Made) (passes : List (List ℕ)) (claims : EachClaims who 0 list passes) (closed : length list ≡ sum_by (λ (ns : List ℕ). length ns) passes) where
    all-owned : owned_sum 0 1 list passes ≡ length list
    all-owned =
        let sum : length list ≡ total passes = closed ∙ total-is passes in
        let few = claims-few 0 list passes claims in
        let most = owners-few 0 1 list passes in
        omega arith

    -- each pass has made just the steps of its makers
    pub made-are-places : EachIsOwned who 0 list passes
    made-are-places =
        let sum : length list ≡ total passes = closed ∙ total-is passes in
        let all = all-owned in
        all-equal 0 list passes claims (omega arith)

  -- Every step is some pass's

  all-hit : (i n : ℕ) (list : List Made) (passes : List (List ℕ)) → owned_sum i n list passes ≡ length list → (j : ℕ) (made : Made) → slice_get list j ≡ Some made → hits i made passes ≡ 1
  all-hit i n [] passes sum j made at = absurd cc
  all-hit i n (first ∷ list) passes sum zero made at =
      let is : first ≡ made = cc in
      let whole = owned_sum-cons i n first list passes in
      let one = hits-few i first passes in
      let rest = owners-few i (suc n) list passes in
      rw (← is) (omega arith)
  all-hit i n (first ∷ list) passes sum (suc j) made at =
      let whole = owned_sum-cons i n first list passes in
      let one = hits-few i first passes in
      let rest = owners-few i (suc n) list passes in
      all-hit i (suc n) list passes (omega arith) j made at

  -- how often a number is among those of the passes
  abbrev hits_at : ℕ → Option Made → List (List ℕ) → ℕ
  hits_at i None passes = 0
  hits_at i (Some made) passes = hits i made passes

  times-owned : (i j : ℕ) (list : List Made) (passes : List (List ℕ)) → EachIsOwned who i list passes → times (suc j) (flat_map (λ (ns : List ℕ). ns) passes) ≡ hits_at i (slice_get list j) passes
  unfolding hits
  times-owned i j list [] h = none (slice_get list j)
    where
      none : (o : Option Made) → 0 ≡ hits_at i o []
      none None = refl
      none (Some made) = refl
  times-owned i j list (ns ∷ passes) h =
      let own : times (suc j) ns ≡ times_passed (belongs who i) (slice_get list j) = rw h.0 (let number : suc j ≡ 1 + j = omega arith in rw number (times-numbers (belongs who i) 1 j list)) in
      times-append (suc j) ns (flat_map (λ (ms : List ℕ). ms) passes) ∙ rw (own, times-owned (suc i) j list passes h.1) (sum (slice_get list j))
    where
      sum : (o : Option Made) → times_passed (belongs who i) o + hits_at (suc i) o passes ≡ hits_at i o (ns ∷ passes)
      sum None = omega arith
      sum (Some made) = refl

  no-zero : (i : ℕ) (list : List Made) (passes : List (List ℕ)) → EachIsOwned who i list passes → times 0 (flat_map (λ (ns : List ℕ). ns) passes) ≡ 0
  no-zero i list [] h = refl
  no-zero i list (ns ∷ passes) h =
      times-append 0 ns (flat_map (λ (ms : List ℕ). ms) passes) ∙ rw (h.0, times-low (belongs who i) 0 1 list (omega arith), no-zero (suc i) list passes h.1) (omega arith)

  module _ (list : List Made) (passes : List (List ℕ)) (claims : EachClaims who 0 list passes) (closed : length list ≡ sum_by (λ (ns : List ℕ). length ns) passes) where
    -- each number from 1 to the last is one pass's, once
    pub covered : (n : ℕ) → times n (flat_map (λ (ns : List ℕ). ns) passes) ≡ times_made (numbered list n)
    covered zero = no-zero 0 list passes (made-are-places list passes claims closed)
    covered (suc j) = times-owned 0 j list passes (made-are-places list passes claims closed) ∙ one (slice_get list j) refl
      where
        one : (o : Option Made) → slice_get list j ≡ o → hits_at 0 o passes ≡ times_made o
        one None at = refl
        one (Some made) at = all-hit 0 1 list passes (all-owned list passes claims closed) j made at
