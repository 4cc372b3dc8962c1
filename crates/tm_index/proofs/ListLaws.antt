-- A list of which the first elements are changed, one after another.
use Rattle.std.proofs.Common.{◌≡◌, ℕ, zero, suc, ◌+◌, ◌<◌, List, [], ◌∷◌, map, length, get_or, slice_set, refl, sym, ap, ◌∙◌, arith, subst}
use Rattle.std.specs.Prelude.{Some, None, slice_get}
use Rattle.std.specs.Map.{values_of}
use Rattle.indexmap.specs.IndexMap.{set_value_at}

-- the first elements, so many, are changed
abbrev pub first_changed : {A : Type 0} → (A → A) → ℕ → List A → List A
first_changed change zero xs = xs
first_changed change (suc n) [] = []
first_changed change (suc n) (x ∷ xs) = change x ∷ first_changed change n xs

pub all_changed : {A : Type 0} (change : A → A) (n : ℕ) (xs : List A) → n ≡ length xs → first_changed change n xs ≡ map change xs
all_changed change zero [] e = refl
all_changed change zero (x ∷ xs) e = absurd (omega (arith, e))
all_changed change (suc n) [] e = refl
all_changed change (suc n) (x ∷ xs) e = ap (λ t. change x ∷ t) (all_changed change n xs (omega (arith, e)))

changed-next : {A : Type 0} (change : A → A) (n : ℕ) (xs : List A) (d : A) → n < length xs → slice_set (first_changed change n xs) n (change (get_or (first_changed change n xs) n d)) ≡ first_changed change (suc n) xs
changed-next change n [] d less = absurd (omega (arith, less))
changed-next change zero (x ∷ xs) d less = refl
changed-next change (suc n) (x ∷ xs) d less = ap (λ t. change x ∷ t) (changed-next change n xs d (omega (arith, less)))

-- the next one is changed
pub changed_next : {A : Type 0} (change : A → A) (n : ℕ) (xs now : List A) (d y : A) → now ≡ first_changed change n xs → n < length xs → y ≡ change (get_or now n d) → slice_set now n y ≡ first_changed change (n + 1) xs
changed_next change n xs now d y e less h =
    let step : suc n ≡ n + 1 = omega arith in
    ap (slice_set now n) h ∙ ap (λ t. slice_set t n (change (get_or t n d))) e ∙ changed-next change n xs d less ∙ ap (λ k. first_changed change k xs) step

module _ {K X : Type 0} where
  -- the change of a value
  abbrev pub on_value : (X → X) → K × X → K × X
  on_value change entry = (entry.0, change entry.1)

  value-next : (change : X → X) (n : ℕ) (es : List (K × X)) (v : X) → slice_get (values_of (first_changed (on_value change) n es)) n ≡ Some v → set_value_at (first_changed (on_value change) n es) n (change v) ≡ first_changed (on_value change) (suc n) es
  value-next change zero [] v h = absurd cc
  value-next change zero (e ∷ es) v h = let same : e.1 ≡ v = cc in ap (λ t. (e.0, change t) ∷ es) (sym same)
  value-next change (suc n) [] v h = absurd cc
  value-next change (suc n) (e ∷ es) v h = ap (λ t. (e.0, change e.1) ∷ t) (value-next change n es v h)

  -- the next value is changed
  pub value_next : (change : X → X) (n : ℕ) (es now next : List (K × X)) (v w : X) → now ≡ first_changed (on_value change) n es → slice_get (values_of now) n ≡ Some v → w ≡ change v → next ≡ set_value_at now n w → next ≡ first_changed (on_value change) (n + 1) es
  value_next change n es now next v w e there h made =
      let step : suc n ≡ n + 1 = omega arith in
      made ∙ ap (set_value_at now n) h ∙ ap (λ t. set_value_at t n (change v)) e ∙ value-next change n es v (subst (λ t. slice_get (values_of t) n ≡ Some v) e there) ∙ ap (λ k. first_changed (on_value change) k es) step

  none-next : (change : X → X) (n : ℕ) (es : List (K × X)) → slice_get (values_of (first_changed (on_value change) n es)) n ≡ None → first_changed (on_value change) n es ≡ first_changed (on_value change) (suc n) es
  none-next change zero [] h = refl
  none-next change zero (e ∷ es) h = absurd cc
  none-next change (suc n) [] h = refl
  none-next change (suc n) (e ∷ es) h = ap (λ t. (e.0, change e.1) ∷ t) (none-next change n es h)

  -- there is no further one
  pub none_next : (change : X → X) (n : ℕ) (es now next : List (K × X)) → now ≡ first_changed (on_value change) n es → slice_get (values_of now) n ≡ None → next ≡ now → next ≡ first_changed (on_value change) (n + 1) es
  none_next change n es now next e there made =
      let step : suc n ≡ n + 1 = omega arith in
      made ∙ e ∙ none-next change n es (subst (λ t. slice_get (values_of t) n ≡ None) e there) ∙ ap (λ k. first_changed (on_value change) k es) step
