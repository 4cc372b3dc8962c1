-- Hands that trees are dealt to, one after another.
use Rattle.std.proofs.Common.{◌≡◌, ◌<◌, ℕ, zero, suc, List, [], ◌∷◌, ◌++◌, length, Bool, true, false, true≢false, refl, sym, ap, ◌∙◌, append-nil}
use Rattle.std.specs.Prelude.{Some, slice_get, slice_set, if◌then◌else◌, ◌==◌}
use Rattle.std.proofs.lemmas.Bool.{eqb-true, eq-eqb}
use Rattle.std.proofs.lemmas.List.Elements.{filter-append}
use Rattle.tm_seat.specs.declared.tree.TreeToPlay.{TreeToPlay}
use Rattle.tm_seat.specs.Dealing.{dealt_to, hand_of, Gives}

-- hands that hold what was dealt so far
pub record AreDealt (workers : ℕ) (trees : List TreeToPlay) (hands : List (List TreeToPlay)) : Type 0 where
  pub count : length hands ≡ workers
  pub each : (worker : ℕ) → worker < workers → slice_get hands worker ≡ Some (hand_of workers worker trees)

pub get-set-same : {A : Type 0} (xs : List A) (k : ℕ) (x y : A) → slice_get xs k ≡ Some x → slice_get (slice_set xs k y) k ≡ Some y
get-set-same [] k x y at = absurd cc
get-set-same (z ∷ xs) zero x y at = refl
get-set-same (z ∷ xs) (suc k) x y at = get-set-same xs k x y at

peel : (k j : ℕ) → (suc k == suc j) ≡ false → (k == j) ≡ false
peel k j other = go (k == j) refl
  where
    go : (b : Bool) → (k == j) ≡ b → (k == j) ≡ false
    go true e = absurd (true≢false (sym (eq-eqb (suc k) (suc j) (ap suc (eqb-true k j e))) ∙ other))
    go false e = e

pub get-set-other : {A : Type 0} (xs : List A) (k j : ℕ) (y : A) → (k == j) ≡ false → slice_get (slice_set xs k y) j ≡ slice_get xs j
get-set-other [] k j y other = refl
get-set-other (z ∷ xs) zero zero y other = absurd cc
get-set-other (z ∷ xs) zero (suc j) y other = refl
get-set-other (z ∷ xs) (suc k) zero y other = refl
get-set-other (z ∷ xs) (suc k) (suc j) y other = get-set-other xs k j y (peel k j other)

pub length-set : {A : Type 0} (xs : List A) (k : ℕ) (y : A) → length (slice_set xs k y) ≡ length xs
length-set [] k y = refl
length-set (z ∷ xs) zero y = refl
length-set (z ∷ xs) (suc k) y = ap suc (length-set xs k y)

-- a tree more
pub hands-more : (workers : ℕ) (trees : List TreeToPlay) (tree : TreeToPlay) (old new : List (List TreeToPlay)) → AreDealt workers trees old → Gives old (dealt_to workers tree.number) tree new → AreDealt workers (trees ++ tree ∷ []) new
hands-more workers trees tree old new h (hand, at, is) =
    record {
      count = rw is (length-set old place (hand ++ tree ∷ []) ∙ h.count);
      each = λ worker lt. go worker (place == worker) refl (h.each worker lt);
    }
  where
    place : ℕ
    place = dealt_to workers tree.number

    more : (worker : ℕ) (b : Bool) → (place == worker) ≡ b → hand_of workers worker (trees ++ tree ∷ []) ≡ hand_of workers worker trees ++ (if b then tree ∷ [] else [])
    more worker b e = filter-append (λ (t : TreeToPlay). dealt_to workers t.number == worker) trees (tree ∷ []) ∙ ap (λ (c : Bool). hand_of workers worker trees ++ (if c then tree ∷ [] else [])) e

    go : (worker : ℕ) (b : Bool) → (place == worker) ≡ b → slice_get old worker ≡ Some (hand_of workers worker trees) → slice_get new worker ≡ Some (hand_of workers worker (trees ++ tree ∷ []))
    go worker true e was =
        let same : place ≡ worker = eqb-true place worker e in
        let both : Some hand ≡ Some (hand_of workers worker trees) = sym at ∙ ap (slice_get old) same ∙ was in
        let is_hand : hand ≡ hand_of workers worker trees = cc in
        rw (more worker true e, is, ← is_hand, ← same) (get-set-same old place hand (hand ++ tree ∷ []) at)
    go worker false e was =
        rw (more worker false e, append-nil (hand_of workers worker trees), is) (get-set-other old place worker (hand ++ tree ∷ []) e ∙ was)
