-- Takes in another order, and places of lists.
use Rattle.std.proofs.Common.{◌≡◌, ◌<◌, ◌+◌, ℕ, zero, suc, List, [], ◌∷◌, ◌++◌, length, get_or, map, refl, sym, ap, ◌∙◌, arith, append_assoc, length-append, ◌⊎◌, inl, inr}
use Rattle.std.specs.Prelude.{Some, slice_get}
use Rattle.std.proofs.lemmas.Grind.{flat_map-append}
use Rattle.tm_legal.specs.Prelude.{own_numbers, times}
use Rattle.tm_legal.proofs.Laws.{times-append}
use Rattle.tm_steal_rows.specs.declared.played.PlayedTake.{PlayedTake}
use Rattle.tm_steal_rows.specs.Gathering.{takes_own, IsAmong, AreTheSame}

-- Places of lists

pub get-front : {A : Type 0} (xs ys : List A) (k : ℕ) (x : A) → slice_get xs k ≡ Some x → slice_get (xs ++ ys) k ≡ Some x
get-front [] ys k x at = absurd cc
get-front (y ∷ xs) ys zero x at = at
get-front (y ∷ xs) ys (suc k) x at = get-front xs ys k x at

pub get-behind : {A : Type 0} (xs ys : List A) (j k : ℕ) (y : A) → j ≡ length xs + k → slice_get ys k ≡ Some y → slice_get (xs ++ ys) j ≡ Some y
get-behind [] ys j k y is at = let same : j ≡ k = omega (arith, is) in rw same at
get-behind (x ∷ xs) ys zero k y is at = absurd (omega (arith, is))
get-behind (x ∷ xs) ys (suc j) k y is at = get-behind xs ys j k y (omega (arith, is)) at

-- what is at a place, where there is one
pub get-at : {A : Type 0} (xs : List A) (k : ℕ) (x : A) → k < length xs → x ≡ get_or xs k x → slice_get xs k ≡ Some x
get-at [] k x within is = absurd (omega (arith, within))
get-at (y ∷ xs) zero x within is = ap Some (sym is)
get-at (y ∷ xs) (suc k) x within is = get-at xs k x (omega (arith, within)) is

-- a place of both is one of the first or of the second
pub get-either : {A : Type 0} (xs ys : List A) (k : ℕ) (x : A) → slice_get (xs ++ ys) k ≡ Some x → (slice_get xs k ≡ Some x) ⊎ ((j : ℕ) × (k ≡ length xs + j) × (slice_get ys j ≡ Some x))
get-either [] ys k x at = inr (k, omega arith, at)
get-either (y ∷ xs) ys zero x at = inl at
get-either {A} (y ∷ xs) ys (suc k) x at = go (get-either xs ys k x at)
  where
    go : (slice_get xs k ≡ Some x) ⊎ ((j : ℕ) × (k ≡ length xs + j) × (slice_get ys j ≡ Some x)) → (slice_get xs k ≡ Some x) ⊎ ((j : ℕ) × (suc k ≡ suc (length xs) + j) × (slice_get ys j ≡ Some x))
    go (inl h) = inl h
    go (inr (j, is, h)) = inr (j, omega (arith, is), h)

pub length-mapped : {A B : Type 0} (f : A → B) (xs : List A) → length (map f xs) ≡ length xs
length-mapped f [] = refl
length-mapped f (x ∷ xs) = ap suc (length-mapped f xs)

-- Takes in another order

among-front : (played : PlayedTake) (xs ys : List PlayedTake) → IsAmong played xs → IsAmong played (xs ++ ys)
among-front played xs ys (k, at) = (k, get-front xs ys k played at)

among-behind : (played : PlayedTake) (xs ys : List PlayedTake) → IsAmong played ys → IsAmong played (xs ++ ys)
among-behind played xs ys (k, at) = (length xs + k, get-behind xs ys (length xs + k) k played refl at)

-- what is one of both is one of others, where those of each are
among-either : (played : PlayedTake) (xs ys zs : List PlayedTake) (k : ℕ) → ((j : ℕ) → slice_get xs j ≡ Some played → IsAmong played zs) → ((j : ℕ) → slice_get ys j ≡ Some played → IsAmong played zs) → slice_get (xs ++ ys) k ≡ Some played → IsAmong played zs
among-either played xs ys zs k first second at = go (get-either xs ys k played at)
  where
    go : (slice_get xs k ≡ Some played) ⊎ ((j : ℕ) × (k ≡ length xs + j) × (slice_get ys j ≡ Some played)) → IsAmong played zs
    go (inl h) = first k h
    go (inr (j, is, h)) = second j h

pub own-both : (n : ℕ) (xs ys : List PlayedTake) → times n (takes_own (xs ++ ys)) ≡ times n (takes_own xs) + times n (takes_own ys)
own-both n xs ys = ap (times n) (flat_map-append (λ (played : PlayedTake). own_numbers (played.take ∷ [])) xs ys) ∙ times-append n (takes_own xs) (takes_own ys)

pub same-refl : (xs : List PlayedTake) → AreTheSame xs xs
same-refl xs = record { among = λ k played at. (k, at); counted = λ n. refl; long = refl }

pub same-then : (xs ys zs : List PlayedTake) → AreTheSame xs ys → AreTheSame ys zs → AreTheSame xs zs
same-then xs ys zs h k =
    record {
      among = λ i played at. let (j, there) = k.among i played at in h.among j played there;
      counted = λ n. h.counted n ∙ k.counted n;
      long = h.long ∙ k.long;
    }

-- behind others, or before others
pub same-behind : (xs ys zs : List PlayedTake) → AreTheSame ys zs → AreTheSame (xs ++ ys) (xs ++ zs)
same-behind xs ys zs h =
    record {
      among = λ k played at. among-either played xs zs (xs ++ ys) k
          (λ j there. (j, get-front xs ys j played there))
          (λ j there. among-behind played xs ys (h.among j played there))
          at;
      counted = λ n. let a = own-both n xs ys in let b = own-both n xs zs in let c = h.counted n in omega (arith, a, b, c);
      long = let a = length-append xs ys in let b = length-append xs zs in let c = h.long in omega (arith, a, b, c);
    }

pub same-before : (xs ys zs : List PlayedTake) → AreTheSame xs ys → AreTheSame (xs ++ zs) (ys ++ zs)
same-before xs ys zs h =
    record {
      among = λ k played at. among-either played ys zs (xs ++ zs) k
          (λ j there. among-front played xs zs (h.among j played there))
          (λ j there. among-behind played xs zs (j, there))
          at;
      counted = λ n. let a = own-both n xs zs in let b = own-both n ys zs in let c = h.counted n in omega (arith, a, b, c);
      long = let a = length-append xs zs in let b = length-append ys zs in let c = h.long in omega (arith, a, b, c);
    }

-- the first and the second change places
pub same-swap : (xs ys : List PlayedTake) → AreTheSame (xs ++ ys) (ys ++ xs)
same-swap xs ys =
    record {
      among = λ k played at. among-either played ys xs (xs ++ ys) k
          (λ j there. among-behind played xs ys (j, there))
          (λ j there. among-front played xs ys (j, there))
          at;
      counted = λ n. let a = own-both n xs ys in let b = own-both n ys xs in omega (arith, a, b);
      long = let a = length-append xs ys in let b = length-append ys xs in omega (arith, a, b);
    }

-- one of them comes first
pub same-first : (xs ys : List PlayedTake) (played : PlayedTake) → AreTheSame (xs ++ played ∷ ys) (played ∷ xs ++ ys)
same-first xs ys played =
    rw (sym (append_assoc xs (played ∷ []) ys)) (same-before (xs ++ played ∷ []) (played ∷ xs) ys (same-swap xs (played ∷ [])))
