-- The longest run of zero groups.
use Rattle.std.proofs.Common.{◌≡◌, ℕ, zero, suc, ◌+◌, ◌<◌, ◌≤◌, Bool, true, false, cond, nat_lt, List, [], ◌∷◌, length, get_or, drop, ◌⊎◌, inl, inr, refl, sym, ap, ◌∙◌, arith, rules, add-one, drop-cons}
use Rattle.std.proofs.lemmas.Bool.Decides.{nat_tests}
use Rattle.tm_addr.specs.declared.printing.Run.{Run}
use Rattle.tm_addr.specs.Printing.{zeros, run, longer, longest}

at_cons : (best : Run) (place : ℕ) (xs : List ℕ) (x : ℕ) (rest : List ℕ) → xs ≡ x ∷ rest → longest best place xs ≡ longest (longer best (run place (zeros xs))) (place + 1) rest
unfolding longest
at_cons best place xs x rest e = ap (longest best place) e ∙ ap (λ ys. longest (longer best (run place (zeros ys))) (place + 1) rest) (sym e)

pub longest_past : (best : Run) (all : List ℕ) (place : ℕ) → place < length all → longest best place (drop place all) ≡ longest (longer best (run place (zeros (drop place all)))) (place + 1) (drop (place + 1) all)
longest_past best all place h = at_cons best place (drop place all) (get_or all place 0) (drop (place + 1) all) (rw add-one (drop-cons all place 0 h))

within_by : (b : Bool) (best here : Run) (n : ℕ) → best.place + best.length ≤ n → here.place + here.length ≤ n → (cond b here best).place + (cond b here best).length ≤ n
within_by true best here n h k = k
within_by false best here n h k = h

pub longer_within : (best here : Run) (n : ℕ) → best.place + best.length ≤ n → here.place + here.length ≤ n → (longer best here).place + (longer best here).length ≤ n
longer_within best here n h k = within_by (nat_lt best.length here.length) best here n h k

-- ---- it is the longest, and the first of equal ones

record IsBest (best : Run) (k : ℕ) (xs : List ℕ) (r : Run) : Type 0 where
  grows : best.length ≤ r.length
  longest : (j : ℕ) → zeros (drop j xs) ≤ r.length
  first : (r ≡ best) ⊎ ((k ≤ r.place) × (best.length < r.length) × ((j : ℕ) → k + j < r.place → zeros (drop j xs) < r.length))

-- of two runs the longer one stays
record IsLonger (best : Run) (k n : ℕ) (kept : Run) : Type 0 where
  least : best.length ≤ kept.length
  here : n ≤ kept.length
  which : (kept ≡ best) ⊎ ((kept ≡ run k n) × (best.length < n))

is_longer : (best : Run) (k n : ℕ) (b : Bool) → nat_lt best.length n ≡ b → IsLonger best k n (cond b (run k n) best)
is_longer best k n true e = record {
  least = let less : best.length < n = search (rules, nat_tests) in omega (arith, less);
  here = omega arith;
  which = inr (refl, search (rules, nat_tests));
}
is_longer best k n false e = record {
  least = omega arith;
  here = search (rules, nat_tests);
  which = inl refl;
}

best_more : (best : Run) (k x : ℕ) (rest : List ℕ) (kept r : Run) → IsLonger best k (zeros (x ∷ rest)) kept → IsBest kept (k + 1) rest r → IsBest best k (x ∷ rest) r
best_more best k x rest kept r l i = record {
  grows = omega (arith, l.least, i.grows);
  longest = at_each;
  first = by_first l.which i.first;
}
  where
    at_each : (j : ℕ) → zeros (drop j (x ∷ rest)) ≤ r.length
    at_each zero = omega (arith, l.here, i.grows)
    at_each (suc j) = i.longest j

    before : (kept.length < r.length) → ((j : ℕ) → k + 1 + j < r.place → zeros (drop j rest) < r.length) → (j : ℕ) → k + j < r.place → zeros (drop j (x ∷ rest)) < r.length
    before less later zero h = omega (arith, l.here, less)
    before less later (suc j) h = later j (omega (arith, h))

    by_first : (kept ≡ best) ⊎ ((kept ≡ run k (zeros (x ∷ rest))) × (best.length < zeros (x ∷ rest)))
        → (r ≡ kept) ⊎ ((k + 1 ≤ r.place) × (kept.length < r.length) × ((j : ℕ) → k + 1 + j < r.place → zeros (drop j rest) < r.length))
        → (r ≡ best) ⊎ ((k ≤ r.place) × (best.length < r.length) × ((j : ℕ) → k + j < r.place → zeros (drop j (x ∷ rest)) < r.length))
    by_first (inl e) (inl f) = inl (f ∙ e)
    by_first (inr e) (inl f) =
        let place : r.place ≡ k = ap (λ (s : Run). s.place) (f ∙ e.0) in
        let long : r.length ≡ zeros (x ∷ rest) = ap (λ (s : Run). s.length) (f ∙ e.0) in
        inr (omega (arith, place), omega (arith, long, e.1), λ j h. absurd (omega (arith, place, h)))
    by_first which (inr f) = inr (omega (arith, f.0), omega (arith, l.least, f.1), before f.1 f.2)

is_best : (best : Run) (k : ℕ) (xs : List ℕ) → IsBest best k xs (longest best k xs)
unfolding longest
is_best best k [] = record {
  grows = omega arith;
  longest = λ j. no_zeros j;
  first = inl refl;
}
  where
    no_zeros : (j : ℕ) → zeros (drop j []) ≤ best.length
    no_zeros zero = omega arith
    no_zeros (suc j) = omega arith
is_best best k (x ∷ rest) =
    let here = run k (zeros (x ∷ rest)) in
    best_more best k x rest (longer best here) (longest (longer best here) (k + 1) rest) (is_longer best k (zeros (x ∷ rest)) (nat_lt best.length (zeros (x ∷ rest))) refl) (is_best (longer best here) (k + 1) rest)

pub longest_is : (gs : List ℕ) (k : ℕ) → zeros (drop k gs) ≤ (longest (run 0 0) 0 gs).length
longest_is gs k = (is_best (run 0 0) 0 gs).longest k

first_at : (gs : List ℕ) (r : Run) → (r ≡ run 0 0) ⊎ ((0 ≤ r.place) × ((run 0 0).length < r.length) × ((j : ℕ) → 0 + j < r.place → zeros (drop j gs) < r.length)) → (k : ℕ) → k < r.place → zeros (drop k gs) < r.length
first_at gs r (inl e) k h = let place : r.place ≡ 0 = ap (λ (s : Run). s.place) e in absurd (omega (arith, place, h))
first_at gs r (inr f) k h = f.2 k (omega (arith, h))

pub first_is : (gs : List ℕ) (k : ℕ) → k < (longest (run 0 0) 0 gs).place → zeros (drop k gs) < (longest (run 0 0) 0 gs).length
first_is gs k h = first_at gs (longest (run 0 0) 0 gs) (is_best (run 0 0) 0 gs).first k h
