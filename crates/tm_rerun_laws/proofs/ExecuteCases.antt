-- Each own step of a run was asked for by a look of some case.
use Rattle.std.proofs.Common.{◌≡◌, ◌<◌, ℕ, zero, suc, List, [], ◌∷◌, ◌++◌, map, Bool, true, false, refl, sym, ap, ◌∙◌, subst, arith}
use Rattle.std.specs.Prelude.{Option, Some, if◌then◌else◌, ◌==◌, flat_map}
use Rattle.std.specs.List.{AllByRecursion}
use Rattle.std.proofs.lemmas.Bool.{eqb-true}
use Rattle.tm_rules.specs.Types.{Look, Step, Take}
use Rattle.tm_legal.specs.Prelude.{Case, RisesFrom, own_numbers, times}
use Rattle.tm_legal.proofs.Laws.{times-append}

-- The takes of cases

abbrev pub taken_of : List Case → List Take
taken_of cs = map (λ (c : Case). c.taken) cs

-- Which look owns a step

-- some element gives a number that all together give
pub some-gives : {A : Type 0} (f : A → List ℕ) (P : A → Type 0) (n : ℕ) (xs : List A) → AllByRecursion P xs → 0 < times n (flat_map f xs) → (x : A) × P x × (0 < times n (f x))
some-gives f P n [] all has = let none : 0 < 0 = has in absurd (omega arith)
some-gives {A} f P n (x ∷ xs) all has = go (times n (f x)) refl (λ h. some-gives f P n xs all.1 h)
  where
    go : (m : ℕ) → times n (f x) ≡ m → (0 < times n (flat_map f xs) → (y : A) × P y × (0 < times n (f y))) → (y : A) × P y × (0 < times n (f y))
    go zero e ih = let sum = times-append n (f x) (flat_map f xs) in ih (omega (arith, has, sum, e))
    go (suc m) e ih = (x, all.0, omega (arith, e))

abbrev owned : Take → List ℕ
owned t = flat_map (λ (look : Look). look.own) t.looks

pub own-cases : (cs : List Case) → own_numbers (taken_of cs) ≡ flat_map (λ (c : Case). owned c.taken) cs
own-cases [] = refl
own-cases (c ∷ cs) = ap (λ ns. owned c.taken ++ ns) (own-cases cs)

-- a number of a rising list is above where it rises from
pub rises-above : (n low : ℕ) (ns : List ℕ) → RisesFrom low ns → 0 < times n ns → low < n
rises-above n low [] rises has = let none : 0 < 0 = has in absurd (omega arith)
rises-above n low (m ∷ ms) rises has = go (m == n) refl has (λ h. rises-above n m ms rises.1 h)
  where
    go : (b : Bool) → (m == n) ≡ b → 0 < (if b then suc (times n ms) else times n ms) → (0 < times n ms → m < n) → low < n
    go true e h ih = let same : m ≡ n = eqb-true m n e in omega (arith, rises.0)
    go false e h ih = let above : m < n = ih h in omega (arith, rises.0)

-- what holds of all steps that were asked for holds of the one with this number
pub asked-so : (f : ℕ → Option Step) (Q : Step → Type 0) (n : ℕ) (step : Step) (ns : List ℕ) (steps : List Step) → map f ns ≡ map Some steps → AllByRecursion Q steps → 0 < times n ns → f n ≡ Some step → Q step
asked-so f Q n step [] steps same all has is = let none : 0 < 0 = has in absurd (omega arith)
asked-so f Q n step (m ∷ ms) [] same all has is = absurd cc
asked-so f Q n step (m ∷ ms) (s ∷ steps) same all has is = go (m == n) refl has (λ h. asked-so f Q n step ms steps (let rest : map f ms ≡ map Some steps = cc in rest) all.1 h is)
  where
    go : (b : Bool) → (m == n) ≡ b → 0 < (if b then suc (times n ms) else times n ms) → (0 < times n ms → Q step) → Q step
    go true e h ih =
        let first : f m ≡ Some s = cc in
        let both : Some s ≡ Some step = sym first ∙ ap f (eqb-true m n e) ∙ is in
        subst Q (let same : s ≡ step = cc in same) all.0
    go false e h ih = ih h
