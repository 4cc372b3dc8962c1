-- The numbers of the steps that pass, where a history is cut at a step.
use Rattle.std.proofs.Common.{◌≡◌, ◌≤◌, ◌<◌, ℕ, zero, suc, ◌+◌, Bool, true, false, not, List, [], ◌∷◌, ◌++◌, length, Some, refl, sym, ap, ◌∙◌, subst, arith, append-nil}
use Rattle.std.specs.Prelude.{if◌then◌else◌, slice_get}
use Rattle.std.specs.List.{AllByRecursion}
use Rattle.std.proofs.lemmas.List.{append_assoc, length-append}
use Rattle.tm_word.specs.Prelude.{is_empty}
use Rattle.tm_rules.specs.Types.{Reply, Step}
use Rattle.tm_legal.specs.Prelude.{History, places, places_from, step_at}
use Rattle.tm_legal.proofs.Histories.{places-le}
use Rattle.tm_verify_laws.specs.First.{AllAfter}
use Rattle.tm_verify_laws.specs.Desk.{has_some}

-- ---- lists

pub not_false : (b : Bool) → not b ≡ true → b ≡ false
not_false true e = absurd cc
not_false false e = refl

pub not_true : (b : Bool) → b ≡ false → not b ≡ true
not_true true e = absurd cc
not_true false e = refl

pub All-back : {A : Type 0} (P : A → Type 0) (xs ys : List A) → AllByRecursion P (xs ++ ys) → AllByRecursion P ys
All-back P [] ys all = all
All-back P (x ∷ xs) ys all = All-back P xs ys all.1

pub All-join : {A : Type 0} (P : A → Type 0) (xs ys : List A) → AllByRecursion P xs → AllByRecursion P ys → AllByRecursion P (xs ++ ys)
All-join P [] ys all more = more
All-join P (x ∷ xs) ys all more = (all.0, All-join P xs ys all.1 more)

no_more : (x : ℕ) (xs ys : List ℕ) (a : ℕ) → x ∷ (xs ++ ys) ≡ a ∷ [] → (x ≡ a) × (xs ≡ []) × (ys ≡ [])
no_more x [] [] a e = (cc, refl, refl)
no_more x [] (y ∷ ys) a e = absurd cc
no_more x (z ∷ xs) ys a e = absurd cc

-- ---- places

pub places_from-append : (n : ℕ) (test : Step → Bool) (xs ys : History) → places_from n test (xs ++ ys) ≡ places_from n test xs ++ places_from (n + length xs) test ys
places_from-append n test [] ys = let same : n + 0 ≡ n = omega arith in rw same refl
places_from-append n test (pair ∷ xs) ys = go (test pair.0) (places_from-append (suc n) test xs ys ∙ ap (λ m. places_from (suc n) test xs ++ places_from m test ys) (let same : suc n + length xs ≡ n + suc (length xs) = omega arith in same))
  where
    go : (b : Bool) → places_from (suc n) test (xs ++ ys) ≡ places_from (suc n) test xs ++ places_from (n + suc (length xs)) test ys
        → (if b then n ∷ places_from (suc n) test (xs ++ ys) else places_from (suc n) test (xs ++ ys)) ≡ (if b then n ∷ places_from (suc n) test xs else places_from (suc n) test xs) ++ places_from (n + suc (length xs)) test ys
    go true ih = ap (λ (ns : List ℕ). n ∷ ns) ih
    go false ih = ih

-- those of the steps after one
abbrev pub later_places : (Step → Bool) → History → History → List ℕ
later_places test before rest = places_from (suc (suc (length before))) test rest

pub cut_yes : (test : Step → Bool) (before : History) (pair : Step × Reply) (rest : History) → test pair.0 ≡ true → places test (before ++ pair ∷ rest) ≡ places test before ++ suc (length before) ∷ later_places test before rest
cut_yes test before pair rest e =
    places_from-append 1 test before (pair ∷ rest)
    ∙ ap (λ ns. places test before ++ ns) (let same : 1 + length before ≡ suc (length before) = omega arith in rw (same, e) refl)

pub cut_no : (test : Step → Bool) (before : History) (pair : Step × Reply) (rest : History) → test pair.0 ≡ false → places test (before ++ pair ∷ rest) ≡ places test before ++ later_places test before rest
cut_no test before pair rest e =
    places_from-append 1 test before (pair ∷ rest)
    ∙ ap (λ ns. places test before ++ ns) (let same : 1 + length before ≡ suc (length before) = omega arith in rw (same, e) refl)

abbrev pub Below : ℕ → List ℕ → Type 0
Below n ns = AllByRecursion (λ k. k < n) ns

abbrev pub Above : ℕ → List ℕ → Type 0
Above n ns = AllByRecursion (λ k. n < k) ns

below_map : (n m : ℕ) (ns : List ℕ) → m ≤ n → AllByRecursion (λ k. (1 ≤ k) × (k < m)) ns → Below n ns
below_map n m [] le all = tt
below_map n m (k ∷ ns) le all = (omega (arith, all.0.1), below_map n m ns le all.1)

above_map : (n m t : ℕ) (ns : List ℕ) → n < m → AllByRecursion (λ k. (m ≤ k) × (k < t)) ns → Above n ns
above_map n m t [] lt all = tt
above_map n m t (k ∷ ns) lt all = (omega (arith, all.0.0), above_map n m t ns lt all.1)

pub before_below : (test : Step → Bool) (before : History) → Below (suc (length before)) (places test before)
before_below test before = below_map (suc (length before)) (1 + length before) (places test before) (omega arith) (places-le 1 test before)

pub later_above : (test : Step → Bool) (before rest : History) → Above (suc (length before)) (later_places test before rest)
later_above test before rest = above_map (suc (length before)) (suc (suc (length before))) (suc (suc (length before)) + length rest) (later_places test before rest) (omega arith) (places-le (suc (suc (length before))) test rest)

-- ---- a step that is the only one

pub record Only (test : Step → Bool) (before : History) (rest : History) (a : ℕ) : Type 0 where
  pub none_before : places test before ≡ []
  pub here : a ≡ suc (length before)
  pub none_later : later_places test before rest ≡ []

only_of : (bs : List ℕ) (n : ℕ) (rs : List ℕ) (a : ℕ) → bs ++ n ∷ rs ≡ a ∷ [] → (bs ≡ []) × (a ≡ n) × (rs ≡ [])
only_of [] n rs a e = let t = no_more n [] rs a e in (refl, sym t.0, t.2)
only_of (b ∷ bs) n rs a e = absurd (let t = no_more b bs (n ∷ rs) a e in let none : n ∷ rs ≡ [] = t.2 in cc)

pub only : (test : Step → Bool) (before : History) (pair : Step × Reply) (rest : History) (a : ℕ) → test pair.0 ≡ true → places test (before ++ pair ∷ rest) ≡ a ∷ [] → Only test before rest a
only test before pair rest a e is =
    let t = only_of (places test before) (suc (length before)) (later_places test before rest) a (sym (cut_yes test before pair rest e) ∙ is) in
    record { none_before = t.0; here = t.1; none_later = t.2 }

-- ---- a step that stands before or after the only one of another kind

front_of : (bs rs : List ℕ) (n a : ℕ) → bs ++ rs ≡ a ∷ [] → Above n rs → a < n → bs ≡ a ∷ []
front_of [] [] n a e above lt = absurd cc
front_of [] (r ∷ rs) n a e above lt = absurd (let same : r ≡ a = cc in omega (arith, same, above.0, lt))
front_of (b ∷ bs) rs n a e above lt = let t = no_more b bs rs a e in ap (λ c. c ∷ bs) t.0 ∙ ap (λ cs. a ∷ cs) t.1

none_of : (bs rs : List ℕ) (n d : ℕ) → bs ++ rs ≡ d ∷ [] → Below n bs → n < d → bs ≡ []
none_of [] rs n d e below lt = refl
none_of (b ∷ bs) rs n d e below lt = absurd (let t = no_more b bs rs d e in omega (arith, t.0, below.0, lt))

pub is_before : (test : Step → Bool) (before : History) (pair : Step × Reply) (rest : History) (a : ℕ) → test pair.0 ≡ false → places test (before ++ pair ∷ rest) ≡ a ∷ [] → a < suc (length before) → places test before ≡ a ∷ []
is_before test before pair rest a e is lt =
    front_of (places test before) (later_places test before rest) (suc (length before)) a (sym (cut_no test before pair rest e) ∙ is) (later_above test before rest) lt

pub is_later : (test : Step → Bool) (before : History) (pair : Step × Reply) (rest : History) (d : ℕ) → test pair.0 ≡ false → places test (before ++ pair ∷ rest) ≡ d ∷ [] → suc (length before) < d → places test before ≡ []
is_later test before pair rest d e is lt =
    none_of (places test before) (later_places test before rest) (suc (length before)) d (sym (cut_no test before pair rest e) ∙ is) (before_below test before) lt

-- the other way round: where it stands by whether it is there already
there_below : (bs rs : List ℕ) (n a : ℕ) → bs ++ rs ≡ a ∷ [] → Below n bs → not (is_empty bs) ≡ true → a < n
there_below [] rs n a e below some = absurd cc
there_below (b ∷ bs) rs n a e below some = let t = no_more b bs rs a e in subst (λ c. c < n) t.0 below.0

yet_above : (bs rs : List ℕ) (n d : ℕ) → bs ++ rs ≡ d ∷ [] → Above n rs → is_empty bs ≡ true → n < d
yet_above (b ∷ bs) rs n d e above none = absurd cc
yet_above [] [] n d e above none = absurd cc
yet_above [] (r ∷ rs) n d e above none = let same : r ≡ d = cc in subst (λ c. n < c) same above.0

pub stands_before : (test : Step → Bool) (before : History) (pair : Step × Reply) (rest : History) (a : ℕ) → test pair.0 ≡ false → places test (before ++ pair ∷ rest) ≡ a ∷ [] → has_some test before ≡ true → a < suc (length before)
stands_before test before pair rest a e is some =
    there_below (places test before) (later_places test before rest) (suc (length before)) a (sym (cut_no test before pair rest e) ∙ is) (before_below test before) some

pub stands_later : (test : Step → Bool) (before : History) (pair : Step × Reply) (rest : History) (d : ℕ) → test pair.0 ≡ false → places test (before ++ pair ∷ rest) ≡ d ∷ [] → has_some test before ≡ false → suc (length before) < d
stands_later test before pair rest d e is none =
    yet_above (places test before) (later_places test before rest) (suc (length before)) d (sym (cut_no test before pair rest e) ∙ is) (later_above test before rest) (some_none (is_empty (places test before)) none)
  where
    some_none : (b : Bool) → not b ≡ false → b ≡ true
    some_none true h = refl
    some_none false h = absurd cc

-- all that pass stand below a step, so none comes later
none_above : (bs rs : List ℕ) (n : ℕ) → Above n rs → Below n (bs ++ rs) → bs ++ rs ≡ bs
none_above bs [] n above below = append-nil bs
none_above bs (r ∷ rs) n above below = absurd (let t : Below n (r ∷ rs) = All-back (λ k. k < n) bs (r ∷ rs) below in omega (arith, t.0, above.0))

pub all_before : (test : Step → Bool) (before : History) (pair : Step × Reply) (rest : History) → test pair.0 ≡ false → AllByRecursion (λ k. k < suc (length before)) (places test (before ++ pair ∷ rest)) → places test (before ++ pair ∷ rest) ≡ places test before
all_before test before pair rest e below =
    let cut = cut_no test before pair rest e in
    cut ∙ none_above (places test before) (later_places test before rest) (suc (length before)) (later_above test before rest) (subst (λ ns. Below (suc (length before)) ns) cut below)

-- what holds of all that pass holds of the number of one
pub place_at : (Q : ℕ → Type 0) (test : Step → Bool) (before : History) (pair : Step × Reply) (rest : History) → test pair.0 ≡ true → AllByRecursion Q (places test (before ++ pair ∷ rest)) → Q (suc (length before))
place_at Q test before pair rest e all = (All-back Q (places test before) (suc (length before) ∷ later_places test before rest) (subst (AllByRecursion Q) (cut_yes test before pair rest e) all)).0

-- ---- from each step to all

-- what holds of the number of each step that passes holds of all places
pub all_places : (Q : ℕ → Type 0) (test : Step → Bool) (rest before : History) → AllAfter (λ earlier (pair : Step × Reply). test pair.0 ≡ true → Q (suc (length earlier))) before rest → AllByRecursion Q (places_from (suc (length before)) test rest)
all_places Q test [] before all = tt
all_places Q test (pair ∷ rest) before all =
    go (test pair.0) refl (subst (λ n. AllByRecursion Q (places_from (suc n) test rest)) (let same : length (before ++ pair ∷ []) ≡ suc (length before) = length-append before (pair ∷ []) ∙ omega arith in same) (all_places Q test rest (before ++ pair ∷ []) all.1))
  where
    go : (b : Bool) → test pair.0 ≡ b → AllByRecursion Q (places_from (suc (suc (length before))) test rest)
        → AllByRecursion Q (if b then suc (length before) ∷ places_from (suc (suc (length before))) test rest else places_from (suc (suc (length before))) test rest)
    go true e more = (all.0 e, more)
    go false e more = more

-- each step that passes is the first that does
abbrev pub OnlyFirst : (Step → Bool) → History → Step × Reply → Type 0
OnlyFirst test before pair = test pair.0 ≡ true → has_some test before ≡ false

push_length : (before : History) (pair : Step × Reply) → length (before ++ pair ∷ []) ≡ suc (length before)
push_length before pair = length-append before (pair ∷ []) ∙ (let same : length before + 1 ≡ suc (length before) = omega arith in same)

push_yes : (test : Step → Bool) (before : History) (pair : Step × Reply) → test pair.0 ≡ true → places test (before ++ pair ∷ []) ≡ places test before ++ suc (length before) ∷ []
push_yes test before pair e = cut_yes test before pair [] e

push_no : (test : Step → Bool) (before : History) (pair : Step × Reply) → test pair.0 ≡ false → places test (before ++ pair ∷ []) ≡ places test before
push_no test before pair e = cut_no test before pair [] e ∙ append-nil (places test before)

ends_some : (ns : List ℕ) (n : ℕ) → not (is_empty (ns ++ n ∷ [])) ≡ true
ends_some [] n = refl
ends_some (m ∷ ns) n = refl

none_after : (test : Step → Bool) (rest before : History) → has_some test before ≡ true → AllAfter (OnlyFirst test) before rest → places_from (suc (length before)) test rest ≡ []
none_after test [] before some all = refl
none_after test (pair ∷ rest) before some all =
    go (test pair.0) refl (λ e. subst (λ n. places_from (suc n) test rest ≡ []) (push_length before pair) (none_after test rest (before ++ pair ∷ []) (ap (λ ns. not (is_empty ns)) (push_no test before pair e) ∙ some) all.1))
  where
    go : (b : Bool) → test pair.0 ≡ b → (test pair.0 ≡ false → places_from (suc (suc (length before))) test rest ≡ [])
        → (if b then suc (length before) ∷ places_from (suc (suc (length before))) test rest else places_from (suc (suc (length before))) test rest) ≡ []
    go true e more = absurd (let none : has_some test before ≡ false = all.0 e in cc)
    go false e more = more e

-- so there is at most one
single_from : (test : Step → Bool) (rest before : History) → AllAfter (OnlyFirst test) before rest → not (is_empty (places_from (suc (length before)) test rest)) ≡ true → (n : ℕ) × (places_from (suc (length before)) test rest ≡ n ∷ [])
single_from test [] before all some = absurd cc
single_from test (pair ∷ rest) before all some =
    go (test pair.0) refl some
    (λ e. subst (λ n. places_from (suc n) test rest ≡ []) (push_length before pair) (none_after test rest (before ++ pair ∷ []) (ap (λ ns. not (is_empty ns)) (push_yes test before pair e) ∙ ends_some (places test before) (suc (length before))) all.1))
    (subst (λ n. not (is_empty (places_from (suc n) test rest)) ≡ true → (k : ℕ) × (places_from (suc n) test rest ≡ k ∷ [])) (push_length before pair) (single_from test rest (before ++ pair ∷ []) all.1))
  where
    later : List ℕ
    later = places_from (suc (suc (length before))) test rest

    go : (b : Bool) → test pair.0 ≡ b → not (is_empty (if b then suc (length before) ∷ places_from (suc (suc (length before))) test rest else places_from (suc (suc (length before))) test rest)) ≡ true
        → (test pair.0 ≡ true → places_from (suc (suc (length before))) test rest ≡ [])
        → (not (is_empty (places_from (suc (suc (length before))) test rest)) ≡ true → (k : ℕ) × (places_from (suc (suc (length before))) test rest ≡ k ∷ []))
        → (k : ℕ) × ((if b then suc (length before) ∷ places_from (suc (suc (length before))) test rest else places_from (suc (suc (length before))) test rest) ≡ k ∷ [])
    go true e s none more = (suc (length before), ap (λ ns. suc (length before) ∷ ns) (none e))
    go false e s none more = more s

pub single : (test : Step → Bool) (history : History) → AllAfter (OnlyFirst test) [] history → has_some test history ≡ true → (n : ℕ) × (places test history ≡ n ∷ [])
single test history all some = single_from test history [] all some

-- ---- how many there may be

-- where each step that passes leaves room for itself, there are no more than that
pub counted : (R : ℕ → Type 0) (test : Step → Bool) (rest before : History) → R (length (places test before)) → AllAfter (λ earlier (pair : Step × Reply). test pair.0 ≡ true → R (suc (length (places test earlier)))) before rest → R (length (places test (before ++ rest)))
counted R test [] before here all = subst (λ (h : History). R (length (places test h))) (sym (append-nil before)) here
counted R test (pair ∷ rest) before here all =
    subst (λ (h : History). R (length (places test h))) (append_assoc before (pair ∷ []) rest) (counted R test rest (before ++ pair ∷ []) (next (test pair.0) refl) all.1)
  where
    next : (b : Bool) → test pair.0 ≡ b → R (length (places test (before ++ pair ∷ [])))
    next true e = subst R (sym (ap length (push_yes test before pair e) ∙ length-append (places test before) (suc (length before) ∷ []) ∙ (let same : length (places test before) + 1 ≡ suc (length (places test before)) = omega arith in same))) (all.0 e)
    next false e = subst R (sym (ap length (push_no test before pair e))) here

-- one more than before the last
pub count_below : (test : Step → Bool) (before : History) (pair : Step × Reply) (rest : History) → test pair.0 ≡ true → length (places test before) < length (places test (before ++ pair ∷ rest))
count_below test before pair rest e =
    let cut = ap length (cut_yes test before pair rest e) ∙ length-append (places test before) (suc (length before) ∷ later_places test before rest) in
    omega (arith, cut)

-- ---- a step by its number

get_at : {A : Type 0} (xs : List A) (x : A) (ys : List A) → slice_get (xs ++ x ∷ ys) (length xs) ≡ Some x
get_at [] x ys = refl
get_at (z ∷ xs) x ys = get_at xs x ys

pub step_here : (before : History) (pair : Step × Reply) (rest : History) → step_at (before ++ pair ∷ rest) (suc (length before)) ≡ Some pair.0
step_here before pair rest = rw (get_at before pair rest) refl

-- a history cut at the step of a number
pub record CutAt (history : History) (version : ℕ) (step : Step) : Type 0 where
  pub before : History
  pub reply : Reply
  pub rest : History
  pub cut : history ≡ before ++ (step, reply) ∷ rest
  pub number : length before ≡ version

some_step : (x y : Step) → Some x ≡ Some y → x ≡ y
some_step x y e = cc

pub cut_at : (history : History) (version : ℕ) (step : Step) → step_at history (suc version) ≡ Some step → CutAt history version step
cut_at [] version step e = absurd cc
cut_at (pair ∷ history) zero step e = record { before = []; reply = pair.1; rest = history; cut = ap (λ s. (s, pair.1) ∷ history) (some_step pair.0 step e); number = refl }
cut_at (pair ∷ history) (suc version) step e =
    let c = cut_at history version step e in
    record { before = pair ∷ c.before; reply = c.reply; rest = c.rest; cut = ap (λ h. pair ∷ h) c.cut; number = ap suc c.number }
