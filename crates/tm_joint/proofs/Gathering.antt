-- Rows that are gathered from the workers' queues, one after another, have together the numbers
-- that the queues had.
use Rattle.std.proofs.Common.{◌≡◌, ℕ, zero, suc, ◌+◌, List, [], ◌∷◌, ◌++◌, length, subst, ap, ◌∙◌, arith}
use Rattle.std.specs.Prelude.{Option, Some, slice_get, slice_set, flat_map}
use Rattle.tm_rules.specs.Types.{Made, Maker}
use Rattle.tm_legal.specs.Prelude.{times}
use Rattle.tm_legal.proofs.Laws.{times-append}
use Rattle.tm_joint.specs.Makers.{EachClaims}

module _ {A : Type 0} (f : A → List ℕ) (n : ℕ) where
  -- how often the number is among those of all queues
  abbrev pub queued : List (List A) → ℕ
  queued queues = times n (flat_map (λ (xs : List A). flat_map f xs) queues)

  -- the first of one queue is taken
  pub queued-take : (queues : List (List A)) (w : ℕ) (x : A) (xs : List A) → slice_get queues w ≡ Some (x ∷ xs) → queued queues ≡ times n (f x) + queued (slice_set queues w xs)
  queued-take [] w x xs at = absurd cc
  queued-take (q ∷ queues) zero x xs at =
      let same : q ≡ x ∷ xs = cc in
      let all = times-append n (flat_map f q) (flat_map (λ (ys : List A). flat_map f ys) queues) in
      let front : times n (flat_map f q) ≡ times n (f x) + times n (flat_map f xs) = ap (λ (ys : List A). times n (flat_map f ys)) same ∙ times-append n (f x) (flat_map f xs) in
      let rest = times-append n (flat_map f xs) (flat_map (λ (ys : List A). flat_map f ys) queues) in
      parts (queued (q ∷ queues)) (times n (flat_map f q)) (queued queues) (times n (f x)) (times n (flat_map f xs)) (queued (xs ∷ queues)) all front rest
    where
      parts : (a b c d e g : ℕ) → a ≡ b + c → b ≡ d + e → g ≡ e + c → a ≡ d + g
      parts a b c d e g h k l = omega arith
  queued-take (q ∷ queues) (suc w) x xs at =
      let all = times-append n (flat_map f q) (flat_map (λ (ys : List A). flat_map f ys) queues) in
      let rest = times-append n (flat_map f q) (flat_map (λ (ys : List A). flat_map f ys) (slice_set queues w xs)) in
      parts (queued (q ∷ queues)) (times n (flat_map f q)) (queued queues) (times n (f x)) (queued (slice_set queues w xs)) (queued (q ∷ slice_set queues w xs)) all (queued-take queues w x xs at) rest
    where
      parts : (a b c d e g : ℕ) → a ≡ b + c → c ≡ d + e → g ≡ b + e → a ≡ d + g
      parts a b c d e g h k l = omega arith

-- All passes

-- the claims of some passes, and of those after them
pub claims-append : (who : Maker → Option ℕ) (i k : ℕ) (list : List Made) (xs ys : List (List ℕ)) → k ≡ i + length xs → EachClaims who i list xs → EachClaims who k list ys → EachClaims who i list (xs ++ ys)
claims-append who i k list [] ys is first rest = let same : k ≡ i = omega arith in subst (λ n. EachClaims who n list ys) same rest
claims-append who i k list (x ∷ xs) ys is first rest = (first.0, claims-append who (suc i) k list xs ys (omega arith) first.1 rest)
