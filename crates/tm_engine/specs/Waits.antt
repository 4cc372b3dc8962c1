-- What a wait ends with.
use Rattle.std.specs.Prelude.{◌≡◌, ℕ, Bool, true, List, length, Option, Some, None, Result, IfOk, MatchOption}
use Rattle.tm_publish.specs.declared.pass.Pass.{Pass}
use Rattle.tm_publish.specs.Fitting.{AllFit}
use Rattle.tm_publish.specs.Words.{home, known}

module _ {L O P S A : Type 0} {n : _} {l : _} {o : _} where
  -- what became of a query in the version that the pass knows
  pub record IsAnswered (fits : P → List S → S → Type 0) (answer_at : P → List S → ℕ → Option A)
      (old new : Pass L O P S n l o) (serial : ℕ) (answer : Option A) (version : ℕ) : Type 0 where
    pub answered : (p : P) → home old ≡ Some p → answer_at p (known new) serial ≡ answer
    pub fitting : (p : P) → home old ≡ Some p → AllFit fits p (known new)
    pub is_version : version ≡ length (known new)

  -- the first query in the version that the pass knows; None where there is none, and none will
  -- come
  pub record IsFirstQuery (fits : P → List S → S → Type 0) (first_at : P → List S → Option A)
      (over_at : P → List S → Bool) (old new : Pass L O P S n l o) (first : Option A) : Type 0 where
    pub asked : (p : P) → home old ≡ Some p
        → MatchOption first ((first_at p (known new) ≡ None) × (over_at p (known new) ≡ true))
        (λ q. first_at p (known new) ≡ Some q)
    pub fitting : (p : P) → home old ≡ Some p → AllFit fits p (known new)

  -- what the version that the pass knows says of queries, E where memory is wanting for the first
  pub record IsAsked {E : Type 0} (fits : P → List S → S → Type 0) (first_at : P → List S → Option A)
      (over_at : P → List S → Bool) (old new : Pass L O P S n l o) (first : Option (Result A E))
      (over : Bool) : Type 0 where
    pub asked : (p : P) → home old ≡ Some p
        → MatchOption first (first_at p (known new) ≡ None)
        (λ r. IfOk r (λ q. first_at p (known new) ≡ Some q))
    pub is_over : (p : P) → home old ≡ Some p → over ≡ over_at p (known new)
    pub fitting : (p : P) → home old ≡ Some p → AllFit fits p (known new)
