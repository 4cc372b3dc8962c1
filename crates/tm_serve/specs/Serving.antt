-- What a supervisor does at an engine: it comes, answers by its book, and leaves.
use Rattle.std.specs.Prelude.{◌≡◌, ◌≤◌, ◌<◌, ◌⊎◌, ⊤, ℕ, true, List, [], ◌∷◌, ◌++◌, length, take, Option, Some, None, Bool}
use Rattle.std.specs.Option.{IfSome}
use mathlib.Core.List.{IsPrefix}
use Rattle.tm_rules.specs.Types.{Book, Query}
use Rattle.tm_rules.specs.Prelude.{book_answer, code_of, numbered}
use Rattle.tm_legal.specs.Prelude.{RisesFrom, last_from}
use Rattle.tm_publish.specs.declared.front.Front.{Front}
use Rattle.tm_publish.specs.declared.pass.Pass.{Pass}
use Rattle.tm_publish.specs.Words.{home, known, made_of, front_list}

-- step n answers the first query of a version since `last`, as the book says
pub record AnswersFirst {P S : Type 0} (first_at : P → List S → Option Query) (answer : ℕ → ℕ → S)
    (p : P) (book : Book) (list : List S) (last n : ℕ) : Type 0 where
  pub version : ℕ
  pub query : Query
  pub since : last ≤ version
  pub before : version < n
  pub first : first_at p (take version list) ≡ Some query
  pub answers : numbered list n ≡ Some (answer query.serial (code_of (book_answer book query)))

-- each of these steps answers so since the one before it
abbrev pub AnswersFrom : {P S : Type 0} → (P → List S → Option Query) → (ℕ → ℕ → S) → P → Book
    → List S → ℕ → List ℕ → Type 0
AnswersFrom first_at answer p book list last [] = ⊤
AnswersFrom first_at answer p book list last (n ∷ answers) =
    AnswersFirst first_at answer p book list last n
    × AnswersFrom first_at answer p book list n answers

-- in a version since `last` and before step `detach` each query had its answer, and none would come
pub record AllWasDone {P S : Type 0} (first_at : P → List S → Option Query) (over_at : P → List S → Bool)
    (p : P) (list : List S) (last detach : ℕ) : Type 0 where
  pub version : ℕ
  pub since : last ≤ version
  pub before : version < detach
  pub none : first_at p (take version list) ≡ None
  pub over : over_at p (take version list) ≡ true

module _ {L O P S : Type 0} {n : _} {l : _} {o : _} where
  -- the pass made this step after all that it knew; its number is the last that the pass knows
  pub record HasMade (step : S) (old new : Pass L O P S n l o) (number : ℕ) : Type 0 where
    pub made : made_of new ≡ made_of old ++ number ∷ []
    pub begins : IsPrefix (known old) (known new)
    pub after : length (known old) < number
    pub last : number ≡ length (known new)
    pub there : numbered (known new) number ≡ Some step

  -- the supervisor came: the pass made this step, after all that it knew, and the front has it
  pub record HasCome (attach : S) (old new : Pass L O P S n l o) (front : Front L O P S n l o) : Type 0 where
    pub number : ℕ
    pub made : made_of new ≡ made_of old ++ number ∷ []
    pub after : length (known old) < number
    pub there : numbered (front_list front) number ≡ Some attach
    pub knows : known new ≡ front_list front

  -- the step of this number, the last that the pass knows, answers the first query of a version
  -- since what the pass knew
  pub record HasAnswered (first_at : P → List S → Option Query) (answer : ℕ → ℕ → S) (book : Book)
      (old new : Pass L O P S n l o) (number : ℕ) : Type 0 where
    pub made : made_of new ≡ made_of old ++ number ∷ []
    pub begins : IsPrefix (known old) (known new)
    pub after : length (known old) < number
    pub last : number ≡ length (known new)
    pub first : (p : P) → home old ≡ Some p
        → AnswersFirst first_at answer p book (known new) (length (known old)) number

  -- in this list each query has its answer, and none will come
  abbrev pub IsOver : (P → List S → Option Query) → (P → List S → Bool) → Pass L O P S n l o
      → List S → Type 0
  IsOver first_at over_at pass list =
      (p : P) → home pass ≡ Some p → (first_at p list ≡ None) × (over_at p list ≡ true)

  -- the pass knows a version in which each query has its answer, and none will come
  pub record HasWaited (first_at : P → List S → Option Query) (over_at : P → List S → Bool)
      (old new : Pass L O P S n l o) : Type 0 where
    pub made : made_of new ≡ made_of old
    pub begins : IsPrefix (known old) (known new)
    pub over : IsOver first_at over_at old (known new)

  -- so many queries were answered, each the first one of a version since the answer before
  pub record IsServing (first_at : P → List S → Option Query) (answer : ℕ → ℕ → S) (book : Book)
      (old new : Pass L O P S n l o) (count : ℕ) : Type 0 where
    pub answers : List ℕ
    pub made : made_of new ≡ made_of old ++ answers
    pub begins : IsPrefix (known old) (known new)
    pub rising : RisesFrom (length (known old)) answers
    pub low : last_from (length (known old)) answers ≤ length (known new)
    pub short : count ≤ length (known new)
    pub counted : count ≡ length answers
    pub each : (p : P) → home old ≡ Some p
        → AnswersFrom first_at answer p book (known new) (length (known old)) answers
    pub few : IfSome book.stop (λ most. length answers ≤ most)

  -- the supervisor answered so many queries and then left: each answer is for the first query of a
  -- version since its own step before, the first one since what the pass knew
  pub record HasServed (first_at : P → List S → Option Query) (over_at : P → List S → Bool)
      (answer : ℕ → ℕ → S) (detach : S) (book : Book) (old new : Pass L O P S n l o) (count : ℕ) : Type 0 where
    pub answers : List ℕ
    pub left : ℕ
    pub made : made_of new ≡ made_of old ++ answers ++ left ∷ []
    pub rising : RisesFrom (length (known old)) (answers ++ left ∷ [])
    pub counted : count ≡ length answers
    pub each : (p : P) → home old ≡ Some p
        → AnswersFrom first_at answer p book (known new) (length (known old)) answers
    pub leaves : numbered (known new) left ≡ Some detach
    -- after the book's number of answers, or when none was left to be given
    pub due : (book.stop ≡ Some count)
        ⊎ ((p : P) → home old ≡ Some p
        → AllWasDone first_at over_at p (known new) (last_from (length (known old)) answers) left)
    -- never more than the book says
    pub few : IfSome book.stop (λ most. count ≤ most)
