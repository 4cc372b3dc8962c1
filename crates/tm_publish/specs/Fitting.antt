-- Lists whose steps fit.
use Rattle.std.specs.Prelude.{◌≡◌, ℕ, Some, List, slice_get, take, unwrap_or}
use Rattle.std.proofs.Common.{sym, ap, ◌∙◌, subst}
use Rattle.tm_publish.specs.declared.event.Event.{Event}
use Rattle.tm_publish.specs.History.{opening_of, steps_of}

module _ {P S : Type 0} where
  -- each step may come after the opening and the steps before it
  abbrev pub AllFit : (P → List S → S → Type 0) → P → List S → Type 0
  AllFit fits p steps = (k : ℕ) (s : S) → slice_get steps k ≡ Some s → fits p (take k steps) s

  -- an opening and a list that fit, said of the history that has them
  pub fitted_of :
      (fits : P → List S → S → Type 0) (q : P) (ys : List S) (p : P) (log : List (Event P S))
      → opening_of log ≡ Some q → steps_of log ≡ ys → opening_of log ≡ Some p
      → ∥ AllFit fits q ys ∥₁ → ∥ AllFit fits p (steps_of log) ∥₁
  fitted_of fits q ys p log opened listed e all =
      subst (λ r. ∥ AllFit fits r (steps_of log) ∥₁) (ap (λ o. unwrap_or o p) (sym opened ∙ e))
      (subst (λ zs. ∥ AllFit fits q zs ∥₁) (sym listed) all)
