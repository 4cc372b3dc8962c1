-- Two lists of which each element goes with the one at its place.
use Rattle.std.proofs.Common.{◌≡◌, ◌<◌, ◌+◌, ℕ, zero, suc, Bool, true, false, ◌&&◌, List, [], ◌∷◌, ◌++◌, length, take, drop, map, Some, None, refl, sym, ap, ◌∙◌, subst, arith, inl, inr}
use Rattle.std.proofs.lemmas.List.{take_more}
use Rattle.std.specs.Prelude.{slice_get, set, get_or, if◌then◌else◌, ◌↔◌}
use Rattle.std.specs.List.{AllByRecursion, list_all, slice_index_or}
use Rattle.tm_verify_laws.specs.First.{FirstFails, first_failing}
use Rattle.tm_verify_laws.proofs.FirstLaws.{some_is}
use Rattle.tm_take.specs.Each.{EachWith}

pub each_at : {A B : Type 0} (P : A → B → Type 0) (xs : List A) (ys : List B) (k : ℕ) (x : A) (y : B) → EachWith P xs ys → slice_get xs k ≡ Some x → slice_get ys k ≡ Some y → P x y
each_at P [] ys k x y h e f = absurd cc
each_at P (x' ∷ xs) [] k x y h e f = absurd h
each_at P (x' ∷ xs) (y' ∷ ys) zero x y h e f = let ex : x' ≡ x = cc in let ey : y' ≡ y = cc in subst (λ a. P a y) ex (subst (λ b. P x' b) ey h.0)
each_at P (x' ∷ xs) (y' ∷ ys) (suc k) x y h e f = each_at P xs ys k x y h.1 e f

pub each_set : {A B : Type 0} (P : A → B → Type 0) (xs : List A) (ys : List B) (k : ℕ) (x : A) (y : B) → EachWith P xs ys → slice_get xs k ≡ Some x → P x y → EachWith P xs (set ys k y)
each_set P [] [] k x y h e here = h
each_set P [] (y' ∷ ys) k x y h e here = absurd h
each_set P (x' ∷ xs) [] k x y h e here = absurd h
each_set P (x' ∷ xs) (y' ∷ ys) zero x y h e here = (let ex : x' ≡ x = cc in subst (λ a. P a y) (sym ex) here, h.1)
each_set P (x' ∷ xs) (y' ∷ ys) (suc k) x y h e here = (h.0, each_set P xs ys k x y h.1 e here)

pub each_push : {A B : Type 0} (P : A → B → Type 0) (xs : List A) (ys : List B) (x : A) (y : B) → EachWith P xs ys → P x y → EachWith P (xs ++ x ∷ []) (ys ++ y ∷ [])
each_push P [] [] x y h here = (here, tt)
each_push P [] (y' ∷ ys) x y h here = absurd h
each_push P (x' ∷ xs) [] x y h here = absurd h
each_push P (x' ∷ xs) (y' ∷ ys) x y h here = (h.0, each_push P xs ys x y h.1 here)

pub each_front : {A B : Type 0} (P : A → B → Type 0) (xs more : List A) (ys : List B) → EachWith P (xs ++ more) ys → EachWith P xs (take (length xs) ys)
each_front P [] more ys h = tt
each_front P (x ∷ xs) more [] h = absurd h
each_front P (x ∷ xs) more (y ∷ ys) h = (h.0, each_front P xs more ys h.1)

pub each_rest : {A B : Type 0} (P : A → B → Type 0) (xs more : List A) (ys : List B) → EachWith P (xs ++ more) ys → EachWith P more (drop (length xs) ys)
each_rest P [] more ys h = h
each_rest P (x ∷ xs) more [] h = absurd h
each_rest P (x ∷ xs) more (y ∷ ys) h = each_rest P xs more ys h.1

pub each_then : {A B C : Type 0} (P : A → B → Type 0) (Q : B → C → Type 0) (R : A → C → Type 0) → ((x : A) (y : B) (z : C) → P x y → Q y z → R x z) → (xs : List A) (ys : List B) (zs : List C) → EachWith P xs ys → EachWith Q ys zs → EachWith R xs zs
each_then P Q R f [] [] [] h k = tt
each_then P Q R f [] [] (z ∷ zs) h k = absurd k
each_then P Q R f [] (y ∷ ys) zs h k = absurd h
each_then P Q R f (x ∷ xs) [] zs h k = absurd h
each_then P Q R f (x ∷ xs) (y ∷ ys) [] h k = absurd k
each_then P Q R f (x ∷ xs) (y ∷ ys) (z ∷ zs) h k = (f x y z h.0 k.0, each_then P Q R f xs ys zs h.1 k.1)

-- what is noted right of each decides of all
pub each_all : {A B : Type 0} (P : A → Type 0) (t : B → Bool) (xs : List A) (ys : List B) → EachWith (λ x y. (t y ≡ true) ↔ P x) xs ys → (list_all t ys ≡ true) ↔ AllByRecursion P xs
each_all P t [] [] h = (λ e. tt, λ a. refl)
each_all P t [] (y ∷ ys) h = absurd h
each_all P t (x ∷ xs) [] h = absurd h
each_all P t (x ∷ xs) (y ∷ ys) h =
    let more = each_all P t xs ys h.1 in
    (λ e. let p = both (t y) (list_all t ys) e in (h.0.0 p.0, more.0 p.1), λ a. all (t y) (list_all t ys) (h.0.1 a.0) (more.1 a.1))
  where
    both : (a b : Bool) → (a && b) ≡ true → (a ≡ true) × (b ≡ true)
    both true b e = (refl, e)
    both false b e = absurd cc

    all : (a b : Bool) → a ≡ true → b ≡ true → (a && b) ≡ true
    all a b p q = rw (p, q) refl

-- a scan of the notes finds nothing where it holds of each, and the first at which it fails
pub each_none : {A B : Type 0} (P : A → Type 0) (t : B → Bool) (n : ℕ) (xs : List A) (ys : List B) → EachWith (λ x y. (t y ≡ true) ↔ P x) xs ys → first_failing t n ys ≡ None → AllByRecursion P xs
each_none P t n [] ys h e = tt
each_none P t n (x ∷ xs) [] h e = absurd h
each_none P t n (x ∷ xs) (y ∷ ys) h e = go (t y) refl e (each_none P t (suc n) xs ys h.1)
  where
    go : (b : Bool) → t y ≡ b → (if b then first_failing t (suc n) ys else Some n) ≡ None → (first_failing t (suc n) ys ≡ None → AllByRecursion P xs) → AllByRecursion P (x ∷ xs)
    go true is f more = (h.0.0 is, more f)
    go false is f more = absurd cc

pub each_some : {A B : Type 0} (P : A → Type 0) (t : B → Bool) (n : ℕ) (xs : List A) (ys : List B) (k : ℕ) → EachWith (λ x y. (t y ≡ true) ↔ P x) xs ys → first_failing t n ys ≡ Some k → FirstFails P n xs k
each_some P t n [] [] k h e = absurd cc
each_some P t n [] (y ∷ ys) k h e = absurd h
each_some P t n (x ∷ xs) [] k h e = absurd h
each_some P t n (x ∷ xs) (y ∷ ys) k h e = go (t y) refl e (each_some P t (suc n) xs ys k h.1)
  where
    go : (b : Bool) → t y ≡ b → (if b then first_failing t (suc n) ys else Some n) ≡ Some k → (first_failing t (suc n) ys ≡ Some k → FirstFails P (suc n) xs k) → FirstFails P n (x ∷ xs) k
    go true is f more = inr (h.0.0 is, more f)
    go false is f more = inl (sym (some_is n k f), λ p. let yes : t y ≡ true = h.0.1 p in absurd cc)

-- a relation that follows from another
pub each_as : {A B : Type 0} (P Q : A → B → Type 0) → ((x : A) (y : B) → P x y → Q x y) → (xs : List A) (ys : List B) → EachWith P xs ys → EachWith Q xs ys
each_as P Q f [] [] h = tt
each_as P Q f [] (y ∷ ys) h = absurd h
each_as P Q f (x ∷ xs) [] h = absurd h
each_as P Q f (x ∷ xs) (y ∷ ys) h = (f x y h.0, each_as P Q f xs ys h.1)

-- the elements may be those of a map
pub each_mapped : {A C B : Type 0} (f : A → C) (P : C → B → Type 0) (xs : List A) (ys : List B) → EachWith P (map f xs) ys → EachWith (λ x y. P (f x) y) xs ys
each_mapped f P [] [] h = tt
each_mapped f P [] (y ∷ ys) h = absurd h
each_mapped f P (x ∷ xs) [] h = absurd h
each_mapped f P (x ∷ xs) (y ∷ ys) h = (h.0, each_mapped f P xs ys h.1)

-- one element more, of lists that are gone over by places
pub each_next : {A B : Type 0} (P : A → B → Type 0) (xs : List A) (ys new : List B) (k : ℕ) (x : A) (y : B) → EachWith P (take k xs) ys → k < length xs → x ≡ get_or xs k x → P x y → new ≡ ys ++ y ∷ [] → EachWith P (take (k + 1) xs) new
each_next P xs ys new k x y h within e here is =
    subst (λ zs. EachWith P (take (k + 1) xs) zs) (sym is)
    (subst (λ front. EachWith P front (ys ++ y ∷ [])) (sym (take_more xs k x within ∙ ap (λ z. take k xs ++ z ∷ []) (sym e))) (each_push P (take k xs) ys x y h here))

-- what an index gives is at its place
pub index_at : {A : Type 0} (xs : List A) (k : ℕ) (x : A) → k < length xs → x ≡ slice_index_or xs k x → slice_get xs k ≡ Some x
index_at [] k x lt is = absurd (omega (arith, lt))
index_at (y ∷ ys) zero x lt is = ap (λ z. Some z) (sym is)
index_at (y ∷ ys) (suc k) x lt is = index_at ys k x (omega (arith, lt)) is
