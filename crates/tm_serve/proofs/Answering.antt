-- Laws of answers that are given one after the other.
use Rattle.std.proofs.Common.{◌≡◌, ◌≤◌, ◌<◌, ℕ, zero, suc, ◌+◌, List, [], ◌∷◌, ◌++◌, length, take, Some, slice_get, refl, ap, ◌∙◌, subst, arith}
use Rattle.std.specs.Prelude.{Option}
use mathlib.Core.List.{IsPrefix}
use Rattle.tm_rules.specs.Types.{Book, Query}
use Rattle.tm_rules.specs.Prelude.{numbered}
use Rattle.tm_legal.specs.Prelude.{RisesFrom, last_from}
use Rattle.tm_serve.specs.Serving.{AnswersFirst, AnswersFrom}

-- Lists

-- the last step has the number that is the length
pub numbered_last : {S : Type 0} (before : List S) (step : S) → numbered (before ++ step ∷ []) (length before + 1) ≡ Some step
numbered_last before step = subst (λ n. numbered (before ++ step ∷ []) n ≡ Some step) (one before) (last before)
  where
    last : {S : Type 0} {step : S} (before : List S) → slice_get (before ++ step ∷ []) (length before) ≡ Some step
    last [] = refl
    last (x ∷ before) = last before

    one : {S : Type 0} (before : List S) → suc (length before) ≡ length before + 1
    one before = omega arith

-- a number of a step stays that step's in a longer list, and is no more than the length
pub get_grows : {S : Type 0} (xs ys : List S) (k : ℕ) (step : S) → slice_get xs k ≡ Some step → slice_get (xs ++ ys) k ≡ Some step
get_grows [] ys k step e = absurd cc
get_grows (x ∷ xs) ys zero step e = e
get_grows (x ∷ xs) ys (suc k) step e = get_grows xs ys k step e

pub get_within : {S : Type 0} (xs : List S) (k : ℕ) (step : S) → slice_get xs k ≡ Some step → k < length xs
get_within [] k step e = absurd cc
get_within (x ∷ xs) zero step e = omega arith
get_within (x ∷ xs) (suc k) step e = let ih : k < length xs = get_within xs k step e in omega arith

pub take_grows : {S : Type 0} (xs ys : List S) (n : ℕ) → n ≤ length xs → take n (xs ++ ys) ≡ take n xs
take_grows xs ys zero le = refl
take_grows [] ys (suc n) le = absurd (omega arith)
take_grows (x ∷ xs) ys (suc n) le = ap (λ zs. x ∷ zs) (take_grows xs ys n (omega arith))

-- a number names the same step in a list that goes on
pub numbered_later : {S : Type 0} (xs ys : List S) (n : ℕ) (step : S) → IsPrefix xs ys → numbered xs n ≡ Some step → numbered ys n ≡ Some step
numbered_later xs ys zero step begins e = absurd cc
numbered_later xs ys (suc k) step begins e = subst (λ list. slice_get list k ≡ Some step) begins.1 (get_grows xs begins.0 k step e)

-- Answers

module _ {P S : Type 0} (first_at : P → List S → Option Query) (answer : ℕ → ℕ → S) (p : P) (book : Book) where
  -- what was answered by a list was so by a longer one
  first_grows : (xs ys : List S) (last n : ℕ) → AnswersFirst first_at answer p book xs last n → AnswersFirst first_at answer p book (xs ++ ys) last n
  first_grows xs ys last zero h = absurd (omega (arith, h.before))
  first_grows xs ys last (suc k) h =
      let within : k < length xs = get_within xs k _ h.answers in
      let version : h.version ≤ length xs = omega (arith, h.before) in
      record {
        version = h.version;
        query = h.query;
        since = h.since;
        before = h.before;
        first = ap (first_at p) (take_grows xs ys h.version version) ∙ h.first;
        answers = get_grows xs ys k _ h.answers;
      }

  from_grows : (xs ys : List S) (last : ℕ) (answers : List ℕ) → AnswersFrom first_at answer p book xs last answers → AnswersFrom first_at answer p book (xs ++ ys) last answers
  from_grows xs ys last [] h = tt
  from_grows xs ys last (n ∷ answers) h = (first_grows xs ys last n h.0, from_grows xs ys n answers h.1)

  pub from_later : (xs ys : List S) (last : ℕ) (answers : List ℕ) → IsPrefix xs ys → AnswersFrom first_at answer p book xs last answers → AnswersFrom first_at answer p book ys last answers
  from_later xs ys last answers begins h =
      subst (λ list. AnswersFrom first_at answer p book list last answers) begins.1 (from_grows xs begins.0 last answers h)

  -- one answer more
  pub from_push : (list : List S) (last : ℕ) (answers : List ℕ) (low n : ℕ) → last_from last answers ≤ low → AnswersFrom first_at answer p book list last answers → AnswersFirst first_at answer p book list low n → AnswersFrom first_at answer p book list last (answers ++ n ∷ [])
  from_push list last [] low n le h next =
      (record { version = next.version; query = next.query; since = (let since : low ≤ next.version = next.since in omega arith); before = next.before; first = next.first; answers = next.answers }, tt)
  from_push list last (m ∷ answers) low n le h next = (h.0, from_push list m answers low n le h.1 next)

-- Numbers

pub rises_push : (low : ℕ) (ns : List ℕ) (n : ℕ) → RisesFrom low ns → last_from low ns < n → RisesFrom low (ns ++ n ∷ [])
rises_push low [] n rises lt = (lt, tt)
rises_push low (m ∷ ns) n rises lt = (rises.0, rises_push m ns n rises.1 lt)

pub last_push : (low : ℕ) (ns : List ℕ) (n : ℕ) → last_from low (ns ++ n ∷ []) ≡ n
last_push low [] n = refl
last_push low (m ∷ ns) n = last_push m ns n
