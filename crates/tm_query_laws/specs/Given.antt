-- Where a query was asked in a machine's list of steps, and where it got its answer. The place of a
-- step is the number of the steps before it, which is the version at which it was made.
use Rattle.std.specs.Prelude.{◌≡◌, ◌<◌, ℕ, suc, List, take, Some, None}
use Rattle.tm_types.specs.Words.{Text}
use Rattle.tm_rules.specs.Types.{Answered, Held, Made, Reply, Start, Step}
use Rattle.tm_rules.specs.Prelude.{Grammar, Queries, Standing, answer_coded, answer_of, numbered}
use Rattle.tm_legal.specs.Prelude.{apply}
use Rattle.tm_made.specs.Made.{state_made, made_step}

-- exactly one number is such
abbrev pub ExactlyOne : (ℕ → Type 0) → Type 0
ExactlyOne Such = (n : ℕ) × Such n × ((other : ℕ) → Such other → other ≡ n)

-- the supervisor answers the query of that serial with a code for this answer
abbrev pub IsAnswer : ℕ → Answered → Step → Type 0
IsAnswer serial given step =
    (code : ℕ) × (step ≡ Step.Answer serial code) × (answer_coded code ≡ Some given)

-- the supervisor leaves
abbrev pub IsDetach : Step → Type 0
IsDetach step = step ≡ Step.Detach

-- the cause of an answer: a query is closed where the supervisor leaves, and else it is answered
abbrev pub Gives : ℕ → Answered → Step → Type 0
Gives serial Answered.Detached step = IsDetach step
Gives serial Answered.Yes step = IsAnswer serial Answered.Yes step
Gives serial Answered.No step = IsAnswer serial Answered.No step
Gives serial Answered.Retry step = IsAnswer serial Answered.Retry step

-- the query of that serial stands without an answer
abbrev pub IsHeld : Queries → ℕ → Type 0
IsHeld queries serial =
    (s : Standing) × (numbered queries.all serial ≡ Some s) × (s.answer ≡ None)

-- the step at that place is the cause of this answer
abbrev pub HasCause : List Made → ℕ → Answered → ℕ → Type 0
HasCause list serial given place =
    (step : Step) × (made_step list (suc place) ≡ Some step) × Gives serial given step

module _ (g : Grammar) (start : Start) (list : List Made) where
  -- the queries after all of these steps
  abbrev pub queries_made : Queries
  queries_made = (state_made g start list).queries

  -- the queries at a version: after that many of these steps
  abbrev pub queries_at : ℕ → Queries
  queries_at version = (state_made g start (take version list)).queries

  -- the query of that serial came to stand there: not before that step, and held after it
  pub record IsAskedAt (serial place : ℕ) : Type 0 where
    pub before : numbered (queries_at place).all serial ≡ None
    pub after : IsHeld (queries_at (suc place)) serial

  -- the query of that serial got this answer there: held before that step, answered after it
  pub record IsGivenAt (serial : ℕ) (given : Answered) (place : ℕ) : Type 0 where
    pub before : IsHeld (queries_at place) serial
    pub after : answer_of (queries_at (suc place)) serial ≡ Some given

  -- the step at that place is an Ask that is replied that serial
  pub record IsAsk (serial place : ℕ) : Type 0 where
    pub domain : ℕ
    pub retry : ℕ
    pub line : Text
    pub there : made_step list (suc place) ≡ Some (Step.Ask domain retry line)
    pub reply : (apply g (state_made g start (take place list)) (Step.Ask domain retry line)).reply
        ≡ Some (Reply.Ask (Held.Serial serial))

  -- such a step stands after the Ask of that serial
  pub record StandsAfterAsk (serial : ℕ) (Such : Step → Type 0) : Type 0 where
    pub asked : ℕ
    pub place : ℕ
    pub step : Step
    pub ask : IsAsk serial asked
    pub later : asked < place
    pub there : made_step list (suc place) ≡ Some step
    pub such : Such step
