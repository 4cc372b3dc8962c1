-- What a step of a pass is.
use Rattle.std.specs.Prelude.{◌≡◌, ℕ, ◌+◌, List, [], ◌∷◌, ◌++◌, length, Option, Some}
use mathlib.Core.List.{IsPrefix}
use Rattle.tm_publish.specs.declared.pass.Pass.{Pass}
use Rattle.tm_publish.specs.Fitting.{AllFit}
use Rattle.tm_publish.specs.Words.{home, known, HasSeen, GoesOn, made_of}

module _ {L O P S R : Type 0} {n : _} {l : _} {o : _} where
  -- the pass made this step, which has this number and this reply
  pub record IsSettled (fits : P → List S → S → Type 0) (reply_at : P → List S → ℕ → Option R)
      (old new : Pass L O P S n l o) (step : S) (number : ℕ) (reply : R) : Type 0 where
    -- the list before the step
    pub before : List S
    pub knows : known new ≡ before ++ step ∷ []
    pub numbered : number ≡ length before + 1
    pub made : made_of new ≡ made_of old ++ number ∷ []
    pub begins : (xs : List S) → HasSeen old xs → IsPrefix xs before
    pub goes_on : (p : P) → home old ≡ Some p → GoesOn fits old p before
    pub fitting : (p : P) → home old ≡ Some p → AllFit fits p (known new)
    pub replied : (p : P) → home old ≡ Some p → reply_at p (known new) number ≡ Some reply
