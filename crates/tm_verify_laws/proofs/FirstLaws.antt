-- Where a list fails first, and scans that find it.
use Rattle.std.proofs.Common.{◌≡◌, ◌≤◌, ◌<◌, ℕ, zero, suc, ◌+◌, Bool, true, false, List, [], ◌∷◌, ◌++◌, length, take, Option, Some, None, refl, sym, ap, ◌∙◌, subst, arith, inl, inr, length-append}
use Rattle.std.specs.Prelude.{if◌then◌else◌}
use Rattle.std.specs.List.{AllByRecursion}
use Rattle.std.proofs.lemmas.List.{append_assoc, append-nil}
use Rattle.tm_verify_laws.specs.First.{FirstFails, first_failing, AllAfter, FirstFailsAfter, first_failing_after}

-- a list that fails somewhere doesn't hold everywhere
pub fails_not_all : {A : Type 0} (P : A → Type 0) (n : ℕ) (xs : List A) (k : ℕ) → FirstFails P n xs k → AllByRecursion P xs → ⊥
fails_not_all P n [] k f all = f
fails_not_all P n (x ∷ xs) k (inl here) all = here.1 all.0
fails_not_all P n (x ∷ xs) k (inr later) all = fails_not_all P (suc n) xs k later.1 all.1

-- there is one first
pub fails_once : {A : Type 0} (P : A → Type 0) (n : ℕ) (xs : List A) (k m : ℕ) → FirstFails P n xs k → FirstFails P n xs m → k ≡ m
fails_once P n [] k m f g = absurd f
fails_once P n (x ∷ xs) k m (inl here) (inl also) = here.0 ∙ sym also.0
fails_once P n (x ∷ xs) k m (inl here) (inr later) = absurd (here.1 later.0)
fails_once P n (x ∷ xs) k m (inr later) (inl here) = absurd (here.1 later.0)
fails_once P n (x ∷ xs) k m (inr later) (inr also) = fails_once P (suc n) xs k m later.1 also.1

abbrev some : ℕ → Option ℕ
some k = Some k

pub some_is : (k m : ℕ) → some k ≡ some m → k ≡ m
some_is k m e = cc

-- a scan that finds nothing
pub scan_all : {A : Type 0} (P : A → Type 0) (test : A → Bool) → ((x : A) → test x ≡ true → P x) → (n : ℕ) (xs : List A) → first_failing test n xs ≡ None → AllByRecursion P xs
scan_all P test sound n [] e = tt
scan_all P test sound n (x ∷ xs) e = by_test (test x) refl e (scan_all P test sound (suc n) xs)
  where
    by_test : (t : Bool) → test x ≡ t → (if t then first_failing test (suc n) xs else Some n) ≡ None → (first_failing test (suc n) xs ≡ None → AllByRecursion P xs) → AllByRecursion P (x ∷ xs)
    by_test true is f more = (sound x is, more f)
    by_test false is f more = absurd cc

pub scan_none : {A : Type 0} (P : A → Type 0) (test : A → Bool) → ((x : A) → P x → test x ≡ true) → (n : ℕ) (xs : List A) → AllByRecursion P xs → first_failing test n xs ≡ None
scan_none P test full n [] all = refl
scan_none P test full n (x ∷ xs) all = rw (full x all.0) (scan_none P test full (suc n) xs all.1)

-- a scan that finds something finds the first
pub scan_fails : {A : Type 0} (P : A → Type 0) (test : A → Bool) → ((x : A) → test x ≡ true → P x) → ((x : A) → P x → test x ≡ true) → (n : ℕ) (xs : List A) (k : ℕ) → first_failing test n xs ≡ Some k → FirstFails P n xs k
scan_fails P test sound full n [] k e = absurd cc
scan_fails P test sound full n (x ∷ xs) k e = by_test (test x) refl e (scan_fails P test sound full (suc n) xs k)
  where
    by_test : (t : Bool) → test x ≡ t → (if t then first_failing test (suc n) xs else Some n) ≡ Some k → (first_failing test (suc n) xs ≡ Some k → FirstFails P (suc n) xs k) → FirstFails P n (x ∷ xs) k
    by_test true is f more = inr (sound x is, more f)
    by_test false is f more = inl (sym (some_is n k f), λ p. let yes : test x ≡ true = full x p in absurd cc)

-- and the first is found
pub fails_scan : {A : Type 0} (P : A → Type 0) (test : A → Bool) → ((x : A) → test x ≡ true → P x) → ((x : A) → P x → test x ≡ true) → (n : ℕ) (xs : List A) (k : ℕ) → FirstFails P n xs k → first_failing test n xs ≡ Some k
fails_scan P test sound full n [] k f = absurd f
fails_scan P test sound full n (x ∷ xs) k (inl here) = by_test (test x) refl
  where
    by_test : (t : Bool) → test x ≡ t → (if t then first_failing test (suc n) xs else Some n) ≡ Some k
    by_test true is = absurd (here.1 (sound x is))
    by_test false is = ap some (sym here.0)
fails_scan P test sound full n (x ∷ xs) k (inr later) = rw (full x later.0) (fails_scan P test sound full (suc n) xs k later.1)

-- ---- with those before

pub after_not_all : {A : Type 0} (P : List A → A → Type 0) (before xs : List A) (k : ℕ) → FirstFailsAfter P before xs k → AllAfter P before xs → ⊥
after_not_all P before [] k f all = f
after_not_all P before (x ∷ xs) k (inl here) all = here.1 all.0
after_not_all P before (x ∷ xs) k (inr later) all = after_not_all P (before ++ x ∷ []) xs k later.1 all.1

pub after_once : {A : Type 0} (P : List A → A → Type 0) (before xs : List A) (k m : ℕ) → FirstFailsAfter P before xs k → FirstFailsAfter P before xs m → k ≡ m
after_once P before [] k m f g = absurd f
after_once P before (x ∷ xs) k m (inl here) (inl also) = here.0 ∙ sym also.0
after_once P before (x ∷ xs) k m (inl here) (inr later) = absurd (here.1 later.0)
after_once P before (x ∷ xs) k m (inr later) (inl here) = absurd (here.1 later.0)
after_once P before (x ∷ xs) k m (inr later) (inr also) = after_once P (before ++ x ∷ []) xs k m later.1 also.1

pub after_all : {A : Type 0} (P : List A → A → Type 0) (test : List A → A → Bool) → ((before : List A) (x : A) → test before x ≡ true → P before x) → (before xs : List A) → first_failing_after test before xs ≡ None → AllAfter P before xs
after_all P test sound before [] e = tt
after_all P test sound before (x ∷ xs) e = by_test (test before x) refl e (after_all P test sound (before ++ x ∷ []) xs)
  where
    by_test : (t : Bool) → test before x ≡ t → (if t then first_failing_after test (before ++ x ∷ []) xs else Some (suc (length before))) ≡ None → (first_failing_after test (before ++ x ∷ []) xs ≡ None → AllAfter P (before ++ x ∷ []) xs) → AllAfter P before (x ∷ xs)
    by_test true is f more = (sound before x is, more f)
    by_test false is f more = absurd cc

pub after_none : {A : Type 0} (P : List A → A → Type 0) (test : List A → A → Bool) → ((before : List A) (x : A) → P before x → test before x ≡ true) → (before xs : List A) → AllAfter P before xs → first_failing_after test before xs ≡ None
after_none P test full before [] all = refl
after_none P test full before (x ∷ xs) all = rw (full before x all.0) (after_none P test full (before ++ x ∷ []) xs all.1)

pub after_fails : {A : Type 0} (P : List A → A → Type 0) (test : List A → A → Bool) → ((before : List A) (x : A) → test before x ≡ true → P before x) → ((before : List A) (x : A) → P before x → test before x ≡ true) → (before xs : List A) (k : ℕ) → first_failing_after test before xs ≡ Some k → FirstFailsAfter P before xs k
after_fails P test sound full before [] k e = absurd cc
after_fails P test sound full before (x ∷ xs) k e = by_test (test before x) refl e (after_fails P test sound full (before ++ x ∷ []) xs k)
  where
    by_test : (t : Bool) → test before x ≡ t → (if t then first_failing_after test (before ++ x ∷ []) xs else Some (suc (length before))) ≡ Some k → (first_failing_after test (before ++ x ∷ []) xs ≡ Some k → FirstFailsAfter P (before ++ x ∷ []) xs k) → FirstFailsAfter P before (x ∷ xs) k
    by_test true is f more = inr (sound before x is, more f)
    by_test false is f more = inl (sym (some_is (suc (length before)) k f), λ p. let yes : test before x ≡ true = full before x p in absurd cc)

pub fails_after : {A : Type 0} (P : List A → A → Type 0) (test : List A → A → Bool) → ((before : List A) (x : A) → test before x ≡ true → P before x) → ((before : List A) (x : A) → P before x → test before x ≡ true) → (before xs : List A) (k : ℕ) → FirstFailsAfter P before xs k → first_failing_after test before xs ≡ Some k
fails_after P test sound full before [] k f = absurd f
fails_after P test sound full before (x ∷ xs) k (inl here) = by_test (test before x) refl
  where
    by_test : (t : Bool) → test before x ≡ t → (if t then first_failing_after test (before ++ x ∷ []) xs else Some (suc (length before))) ≡ Some k
    by_test true is = absurd (here.1 (sound before x is))
    by_test false is = ap some (sym here.0)
fails_after P test sound full before (x ∷ xs) k (inr later) = rw (full before x later.0) (fails_after P test sound full (before ++ x ∷ []) xs k later.1)

-- ---- P of each element is P wherever the list is cut

pub at_split : {A : Type 0} (P : List A → A → Type 0) (xs : List A) (x : A) (ys before : List A) → AllAfter P before (xs ++ x ∷ ys) → P (before ++ xs) x
at_split P [] x ys before all = subst (λ bs. P bs x) (sym (append-nil before)) all.0
at_split P (y ∷ xs) x ys before all = subst (λ bs. P bs x) (append_assoc before (y ∷ []) xs) (at_split P xs x ys (before ++ y ∷ []) all.1)

pub of_splits : {A : Type 0} (P : List A → A → Type 0) (rest before : List A) → ((xs : List A) (x : A) (ys : List A) → rest ≡ xs ++ x ∷ ys → P (before ++ xs) x) → AllAfter P before rest
of_splits P [] before holds = tt
of_splits P (x ∷ rest) before holds =
    (subst (λ bs. P bs x) (append-nil before) (holds [] x rest refl), of_splits P rest (before ++ x ∷ []) (λ xs y ys e. subst (λ bs. P bs y) (sym (append_assoc before (x ∷ []) xs)) (holds (x ∷ xs) y ys (ap (λ zs. x ∷ zs) e))))

-- ---- lists that begin in the same way fail at the same place

fails_above : {A : Type 0} (P : A → Type 0) (n : ℕ) (xs : List A) (k : ℕ) → FirstFails P n xs k → n ≤ k
fails_above P n [] k f = absurd f
fails_above P n (x ∷ xs) k (inl here) = let e = here.0 in omega (arith, e)
fails_above P n (x ∷ xs) k (inr later) = let le = fails_above P (suc n) xs k later.1 in omega (arith, le)

pub fails_front : {A : Type 0} (P : A → Type 0) (n m : ℕ) (xs ys : List A) (k : ℕ) → k < n + m → take m xs ≡ take m ys → FirstFails P n xs k → FirstFails P n ys k
fails_front P n m [] ys k lt e f = absurd f
fails_front P n zero (x ∷ xs) ys k lt e f = let le = fails_above P n (x ∷ xs) k f in absurd (omega (arith, lt, le))
fails_front P n (suc m) (x ∷ xs) [] k lt e f = absurd cc
fails_front P n (suc m) (x ∷ xs) (y ∷ ys) k lt e (inl here) = let same : x ≡ y = cc in inl (here.0, λ p. here.1 (subst P (sym same) p))
fails_front P n (suc m) (x ∷ xs) (y ∷ ys) k lt e (inr later) =
    let same : x ≡ y = cc in
    let rest : take m xs ≡ take m ys = cc in
    inr (subst P same later.0, fails_front P (suc n) m xs ys k (omega (arith, lt)) rest later.1)

after_above : {A : Type 0} (P : List A → A → Type 0) (before xs : List A) (k : ℕ) → FirstFailsAfter P before xs k → length before < k
after_above P before [] k f = absurd f
after_above P before (x ∷ xs) k (inl here) = let e = here.0 in omega (arith, e)
after_above P before (x ∷ xs) k (inr later) =
    let long = length-append before (x ∷ []) in
    let lt = after_above P (before ++ x ∷ []) xs k later.1 in
    omega (arith, long, lt)

pub after_front : {A : Type 0} (P Q : List A → A → Type 0) → ((before : List A) (x : A) → P before x → Q before x) → ((before : List A) (x : A) → Q before x → P before x) → (m : ℕ) (before xs ys : List A) (k : ℕ) → k ≤ length before + m → take m xs ≡ take m ys → FirstFailsAfter P before xs k → FirstFailsAfter Q before ys k
after_front P Q to from m before [] ys k le e f = absurd f
after_front P Q to from zero before (x ∷ xs) ys k le e f = let lt = after_above P before (x ∷ xs) k f in absurd (omega (arith, le, lt))
after_front P Q to from (suc m) before (x ∷ xs) [] k le e f = absurd cc
after_front P Q to from (suc m) before (x ∷ xs) (y ∷ ys) k le e (inl here) = let same : x ≡ y = cc in inl (here.0, λ q. here.1 (subst (P before) (sym same) (from before y q)))
after_front P Q to from (suc m) before (x ∷ xs) (y ∷ ys) k le e (inr later) =
    let same : x ≡ y = cc in
    let rest : take m xs ≡ take m ys = cc in
    let long = length-append before (x ∷ []) in
    let more = after_front P Q to from m (before ++ x ∷ []) xs ys k (omega (arith, le, long)) rest later.1 in
    inr (subst (Q before) same (to before x later.0), subst (λ z. FirstFailsAfter Q (before ++ z ∷ []) ys k) same more)
