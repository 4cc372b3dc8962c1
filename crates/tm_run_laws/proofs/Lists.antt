-- What holds of each element of a list.
use Rattle.std.proofs.Common.{◌≡◌, ℕ, zero, suc, ◌==◌, Bool, true, false, cond, List, [], ◌∷◌, map, refl, subst}
use Rattle.std.specs.Prelude.{Option, Some, slice_get, IfSome, flat_map}
use Rattle.std.specs.List.{AllByRecursion, list_all}
use Rattle.std.proofs.lemmas.Bool.{eqb-true}
use Rattle.tm_line.proofs.Steps.{both, all}
use Rattle.tm_legal.specs.Prelude.{times}
use Rattle.tm_legal.proofs.Asked.{All-append}

pub All-map : {A : Type 0} (P Q : A → Type 0) (xs : List A) → ((x : A) → P x → Q x) → AllByRecursion P xs → AllByRecursion Q xs
All-map P Q [] f h = tt
All-map P Q (x ∷ xs) f h = (f x h.0, All-map P Q xs f h.1)

pub All-both : {A : Type 0} (P Q : A → Type 0) (xs : List A) → AllByRecursion P xs → AllByRecursion Q xs → AllByRecursion (λ x. P x × Q x) xs
All-both P Q [] h k = tt
All-both P Q (x ∷ xs) h k = ((h.0, k.0), All-both P Q xs h.1 k.1)

pub All-at : {A : Type 0} (P : A → Type 0) (xs : List A) (k : ℕ) (x : A) → AllByRecursion P xs → slice_get xs k ≡ Some x → P x
All-at P [] k x h e = absurd cc
All-at P (y ∷ xs) zero x h e = let same : y ≡ x = cc in subst P same h.0
All-at P (y ∷ xs) (suc k) x h e = All-at P xs k x h.1 e

-- of the images, and of what they are images of
pub of-images : {A B : Type 0} (P : B → Type 0) (f : A → B) (xs : List A) → AllByRecursion P (map f xs) → AllByRecursion (λ x. P (f x)) xs
of-images P f [] h = tt
of-images P f (x ∷ xs) h = (h.0, of-images P f xs h.1)

pub to-images : {A B : Type 0} (P : B → Type 0) (f : A → B) (xs : List A) → AllByRecursion (λ x. P (f x)) xs → AllByRecursion P (map f xs)
to-images P f [] h = tt
to-images P f (x ∷ xs) h = (h.0, to-images P f xs h.1)

-- of all lists that are joined
pub All-flat : {A B : Type 0} (P : B → Type 0) (f : A → List B) (xs : List A) → AllByRecursion (λ x. AllByRecursion P (f x)) xs → AllByRecursion P (flat_map f xs)
All-flat P f [] h = tt
All-flat P f (x ∷ xs) h = All-append P (f x) (flat_map f xs) h.0 (All-flat P f xs h.1)

-- a test that each element passes
pub at-place : {A : Type 0} (p : A → Bool) (xs : List A) (k : ℕ) (x : A) → list_all p xs ≡ true → slice_get xs k ≡ Some x → p x ≡ true
at-place p [] k x h e = absurd cc
at-place p (y ∷ xs) zero x h e = let same : y ≡ x = cc in subst (λ z. p z ≡ true) same (both (p y) (list_all p xs) h).0
at-place p (y ∷ xs) (suc k) x h e = at-place p xs k x (both (p y) (list_all p xs) h).1 e

pub from-places : {A : Type 0} (p : A → Bool) (xs : List A) → ((k : ℕ) (x : A) → slice_get xs k ≡ Some x → p x ≡ true) → list_all p xs ≡ true
from-places p [] f = refl
from-places p (x ∷ xs) f = all (p x) (list_all p xs) (f 0 x refl) (from-places p xs (λ k y e. f (suc k) y e))

-- what holds of all numbers of a list holds of one that stands in it
pub at-number : (Q : ℕ → Type 0) (n m : ℕ) (ns : List ℕ) → AllByRecursion Q ns → times n ns ≡ suc m → Q n
at-number Q n m [] h e = absurd cc
at-number Q n m (x ∷ ns) h e = by_test (x == n) refl e (at-number Q n m ns h.1)
  where
    by_test : (b : Bool) → (x == n) ≡ b → cond b (suc (times n ns)) (times n ns) ≡ suc m → (times n ns ≡ suc m → Q n) → Q n
    by_test true same e more = subst Q (eqb-true x n same) h.0
    by_test false other e more = more e

-- what holds of the steps holds of those that stand at these numbers
pub at-numbers : {A : Type 0} (P : A → Type 0) (f : ℕ → Option A) (ns : List ℕ) (xs : List A) → map f ns ≡ map Some xs → AllByRecursion P xs → AllByRecursion (λ n. IfSome (f n) P) ns
at-numbers P f [] xs e h = tt
at-numbers P f (n ∷ ns) [] e h = absurd cc
at-numbers P f (n ∷ ns) (x ∷ xs) e h =
    let head : f n ≡ Some x = cc in
    let tail : map f ns ≡ map Some xs = cc in
    (subst (λ o. IfSome o P) (let back : Some x ≡ f n = cc in back) h.0, at-numbers P f ns xs tail h.1)
