-- How often numbers stand in a list, up to two.
use Rattle.std.proofs.Common.{◌≡◌, ◌≤◌, ◌<◌, ◌+◌, ◌-◌, ℕ, zero, suc, Bool, true, false, ◌==◌, List, [], ◌∷◌, ◌++◌, length, Option, Some, None, refl, sym, ap, ◌∙◌, subst, arith, eqb-true, eq-eqb}
use Rattle.std.proofs.lemmas.List.{at_drop_more}
use Rattle.std.specs.Prelude.{get_or, drop, flat_map, slice_get, slice_set, slice_index_or, replicate, if◌then◌else◌}
use Rattle.tm_rules.specs.Types.{Look, Take}
use Rattle.tm_rules.specs.Prelude.{changed_at}
use Rattle.tm_legal.specs.Prelude.{History, own_numbers, times}
use Rattle.tm_verify_steps.specs.Counting.{capped, one_more, counted_one, counted, owned_counts}
use Rattle.tm_verify_steps.proofs.ChangedLaws.{changed_same, changed_other, changed_past, changed_set}

-- a number that is no step's
pub nothing_counted : (number : ℕ) (counts : List ℕ) → length counts < number → counted_one number counts ≡ counts
nothing_counted zero counts h = refl
nothing_counted (suc k) counts h = changed_past one_more counts k (omega (arith, h))

-- a number that is a step's
pub counts_one : (number k c : ℕ) (counts : List ℕ) → k + 1 ≡ number → k < length counts → c ≡ slice_index_or counts k c → counted_one number counts ≡ slice_set counts k (one_more c)
counts_one zero k c counts e h is = absurd (omega (arith, e))
counts_one (suc n) k c counts e h is =
    let same : n ≡ k = omega (arith, e) in
    ap (λ j. changed_at j one_more counts) same ∙ sym (changed_set one_more counts k c h is)

-- numbers after others
pub counted_more : (ms ns counts : List ℕ) → counted (ms ++ ns) counts ≡ counted ns (counted ms counts)
counted_more [] ns counts = refl
counted_more (m ∷ ms) ns counts = counted_more ms ns (counted_one m counts)

more_capped : (n : ℕ) → one_more (capped n) ≡ capped (suc n)
more_capped zero = refl
more_capped (suc zero) = refl
more_capped (suc (suc n)) = refl

-- the count at a place after these numbers
pub count_at : (numbers counts : List ℕ) (k c : ℕ) → slice_get counts k ≡ Some (capped c) → slice_get (counted numbers counts) k ≡ Some (capped (c + times (suc k) numbers))
count_at [] counts k c e = e ∙ ap (λ n. Some (capped n)) (let same : c ≡ c + 0 = omega arith in same)
count_at (zero ∷ numbers) counts k c e = count_at numbers counts k c e ∙ ap (λ t. Some (capped (c + t))) (other (zero == suc k) refl)
  where
    other : (b : Bool) → (zero == suc k) ≡ b → times (suc k) numbers ≡ (if b then suc (times (suc k) numbers) else times (suc k) numbers)
    other false is = refl
    other true is = let same = eqb-true zero (suc k) is in absurd cc
count_at (suc n ∷ numbers) counts k c e = go (λ cs m h. count_at numbers cs k m h) (suc n == suc k) refl
  where
    go : ((cs : List ℕ) (m : ℕ) → slice_get cs k ≡ Some (capped m) → slice_get (counted numbers cs) k ≡ Some (capped (m + times (suc k) numbers)))
        → (b : Bool) → (suc n == suc k) ≡ b → slice_get (counted numbers (changed_at n one_more counts)) k ≡ Some (capped (c + (if b then suc (times (suc k) numbers) else times (suc k) numbers)))
    go more true is =
        let number : suc n ≡ suc k = eqb-true (suc n) (suc k) is in
        let place : k ≡ n = omega (arith, number) in
        let first : slice_get (changed_at n one_more counts) k ≡ Some (capped (suc c)) =
        subst (λ j. slice_get (changed_at j one_more counts) k ≡ Some (capped (suc c))) place (changed_same one_more counts k (capped c) e ∙ ap (λ m. Some m) (more_capped c)) in
        more (changed_at n one_more counts) (suc c) first ∙ ap (λ m. Some (capped m)) (let same : suc c + times (suc k) numbers ≡ c + suc (times (suc k) numbers) = omega arith in same)
    go more false is =
        more (changed_at n one_more counts) c (changed_other one_more counts n k (λ same. let yes = eq-eqb (suc n) (suc k) (ap suc same) in absurd cc) ∙ e)

zeros_at : (n k : ℕ) → k < n → slice_get {X = ℕ} (replicate n 0) k ≡ Some 0
zeros_at zero k h = absurd (omega (arith, h))
zeros_at (suc n) zero h = refl
zeros_at (suc n) (suc k) h = zeros_at n k (omega (arith, h))

-- the count of a step
pub owned_at : (takes : List Take) (history : History) (k : ℕ) → k < length history → slice_get (owned_counts takes history) k ≡ Some (capped (times (suc k) (own_numbers takes)))
owned_at takes history k h = count_at (own_numbers takes) (replicate (length history) 0) k 0 (zeros_at (length history) k h)
    ∙ ap (λ n. Some (capped n)) (let same : 0 + times (suc k) (own_numbers takes) ≡ times (suc k) (own_numbers takes) = omega arith in same)

-- a count of 0 or 1 is right where the numbers are so many
pub capped_is : (n m : ℕ) → m ≤ 1 → capped n ≡ m → n ≡ m
capped_is zero m h e = e
capped_is (suc zero) m h e = e
capped_is (suc (suc n)) m h e = let two : 2 ≡ m = e in absurd (omega (arith, h, two))

pub is_capped : (n m : ℕ) → m ≤ 1 → n ≡ m → capped n ≡ m
is_capped zero m h e = e
is_capped (suc zero) m h e = e
is_capped (suc (suc n)) m h e = absurd (omega (arith, h, e))

-- ---- looks and takes that are gone over

abbrev own_of : List Look → List ℕ
own_of looks = flat_map (λ (look : Look). look.own) looks

pub look_counted : (looks : List Look) (k : ℕ) (look : Look) (old new whole : List ℕ) → k < length looks → look ≡ get_or looks k look → counted (flat_map (λ (l : Look). l.own) (drop k looks)) old ≡ whole
    → new ≡ counted look.own old → counted (flat_map (λ (l : Look). l.own) (drop (k + 1) looks)) new ≡ whole
look_counted looks k look old new whole within is before made =
    let at : drop k looks ≡ look ∷ drop (k + 1) looks = at_drop_more (λ ls. ls) looks k look within ∙ ap (λ (l : Look). l ∷ drop (k + 1) looks) (sym is) in
    ap (counted (own_of (drop (k + 1) looks))) made ∙ sym (counted_more look.own (own_of (drop (k + 1) looks)) old) ∙ ap (λ ls. counted (own_of ls) old) (sym at) ∙ before

pub take_counted : (takes : List Take) (k : ℕ) (taken : Take) (old new whole : List ℕ) → k < length takes → taken ≡ get_or takes k taken → counted (own_numbers (drop k takes)) old ≡ whole
    → new ≡ counted (flat_map (λ (l : Look). l.own) taken.looks) old → counted (own_numbers (drop (k + 1) takes)) new ≡ whole
take_counted takes k taken old new whole within is before made =
    let at : drop k takes ≡ taken ∷ drop (k + 1) takes = at_drop_more (λ ts. ts) takes k taken within ∙ ap (λ (t : Take). t ∷ drop (k + 1) takes) (sym is) in
    ap (counted (own_numbers (drop (k + 1) takes))) made ∙ sym (counted_more (own_of taken.looks) (own_numbers (drop (k + 1) takes)) old) ∙ ap (λ ts. counted (own_numbers ts) old) (sym at) ∙ before
