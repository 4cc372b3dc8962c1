-- At which places of a list of made steps a query came to stand, and got its answer.
use Rattle.std.proofs.Common.{◌≡◌, ◌<◌, ◌↔◌, ◌≤◌, ℕ, zero, suc, List, [], ◌∷◌, length, take, true, Option, Some, None, refl, sym, ap, subst, ◌∙◌, arith, ◌⊎◌, inl, inr}
use Rattle.std.proofs.Math.Seq.{take-length}
use Rattle.std.proofs.lemmas.Bool.{cases_lt}
use Rattle.std.specs.Prelude.{is_some, slice_get, IsSome}
use Rattle.tm_types.specs.Words.{Text}
use Rattle.tm_rules.specs.Types.{Answered, Held, Made, Reply, Start, Step}
use Rattle.tm_rules.specs.Prelude.{Grammar, Queries, Standing, answer_of, numbered}
use Rattle.tm_legal.specs.Prelude.{State, after, apply, opening}
use Rattle.tm_made.specs.Made.{steps_made, state_made, made_step}
use Rattle.tm_query_laws.specs.Given.{ExactlyOne, queries_made, queries_at, IsHeld, IsAskedAt, IsGivenAt, IsAsk, IsAnswer, IsDetach, Gives, HasCause, StandsAfterAsk}
use Rattle.tm_query_laws.proofs.Changes.{Draws, answer_in, HeldIn, no-answer, same-answer, answer-stays, query-stays, answer-came, query-came, step-moves, ask-draws, no-serial}

module _ (g : Grammar) (n : ℕ) where
  -- the query of serial n + 1
  abbrev in_state : State → Option Standing
  in_state s = slice_get s.queries.all n

  -- the same after some of these steps
  abbrev stood : State → List Made → ℕ → Option Standing
  stood s list version = in_state (after g s (steps_made (take version list)))

  -- What one step keeps lasts

  abbrev Lasts : (Option Standing → Type 0) → Type 0
  Lasts P = (s : State) (step : Step) → P (in_state s) → P (in_state (apply g s step).state)

  to-end : (P : Option Standing → Type 0) → Lasts P → (s : State) (list : List Made) → P (in_state s) → P (in_state (after g s (steps_made list)))
  unfolding after
  to-end P lasts s [] p = p
  to-end P lasts s (made ∷ list) p = to-end P lasts (apply g s made.step).state list (lasts s made.step p)

  to-version : (P : Option Standing → Type 0) → Lasts P → (s : State) (list : List Made) (a b : ℕ) → a ≤ b → P (stood s list a) → P (stood s list b)
  unfolding after
  to-version P lasts s list zero b low p = to-end P lasts s (take b list) p
  to-version P lasts s list (suc a) zero low p = absurd (omega arith)
  to-version P lasts s [] (suc a) (suc b) low p = p
  to-version P lasts s (made ∷ list) (suc a) (suc b) low p = to-version P lasts (apply g s made.step).state list a b (omega arith) p

  answer-lasts : (given : Answered) → Lasts (λ o. answer_in o ≡ Some given)
  answer-lasts given s step is = answer-stays _ _ (in_state s) (in_state (apply g s step).state) given (step-moves g s n step) is

  query-lasts : Lasts IsSome
  query-lasts s step is = query-stays _ _ (in_state s) (in_state (apply g s step).state) (step-moves g s n step) is

  -- Answers

  -- held just before, answered just after
  abbrev Given : State → List Made → Answered → ℕ → Type 0
  Given s list given place = HeldIn (stood s list place) × (answer_in (stood s list (suc place)) ≡ Some given)

  held-open : (o : Option Standing) → HeldIn o → answer_in o ≡ None
  held-open o (x, is, held) = ap answer_in is ∙ held

  given-somewhere : (s : State) (list : List Made) (given : Answered) → answer_in (in_state s) ≡ None → answer_in (in_state (after g s (steps_made list))) ≡ Some given → (place : ℕ) × Given s list given place
  unfolding after
  given-somewhere s [] given none is = absurd (no-answer (answer_in (in_state s)) given none is)
  given-somewhere s (made ∷ list) given none is = go (answer_in (in_state next)) refl (λ now. given-somewhere next list given now is)
    where
      next : State
      next = (apply g s made.step).state

      go : (a : Option Answered) → answer_in (in_state next) ≡ a → (answer_in (in_state next) ≡ None → (place : ℕ) × Given next list given place) → (place : ℕ) × Given s (made ∷ list) given place
      go None now later = let found = later now in (suc found.0, found.1)
      go (Some a) now later =
          let same : a ≡ given = same-answer a given (sym (to-end (λ o. answer_in o ≡ Some a) (answer-lasts a) next list now) ∙ is) in
          let came = answer-came _ _ (in_state s) (in_state next) a (step-moves g s n made.step) none now in
          (zero, (came.0, now ∙ ap (λ (b : Answered). Some b) same))

  caused : (s : State) (list : List Made) (given : Answered) (place : ℕ) → Given s list given place → HasCause list (suc n) given place
  unfolding after
  caused s [] given zero (held, is) = absurd (no-answer (answer_in (in_state s)) given (held-open (in_state s) held) is)
  caused s [] given (suc place) (held, is) = absurd (no-answer (answer_in (in_state s)) given (held-open (in_state s) held) is)
  caused s (made ∷ list) given zero (held, is) =
      let came = answer-came _ _ (in_state s) (in_state (apply g s made.step).state) given (step-moves g s n made.step) (held-open (in_state s) held) is in
      (made.step, refl, came.1)
  caused s (made ∷ list) given (suc place) at = caused (apply g s made.step).state list given place at

  -- two places at which it was given are one
  given-once : (s : State) (list : List Made) (a b : Answered) (p q : ℕ) → Given s list a p → Given s list b q → p < q → ⊥
  given-once s list a b p q first second before =
      let still : answer_in (stood s list q) ≡ Some a = to-version (λ o. answer_in o ≡ Some a) (answer-lasts a) s list (suc p) q (omega arith) first.1 in
      no-answer (answer_in (stood s list q)) a (held-open (stood s list q) second.0) still

  -- Queries

  abbrev Asked : State → List Made → ℕ → Type 0
  Asked s list place = (stood s list place ≡ None) × HeldIn (stood s list (suc place))

  no-query : (o : Option Standing) → o ≡ None → IsSome o → ⊥
  no-query o none is = let no : is_some {T = Standing} None ≡ true = ap is_some (sym none) ∙ is in cc

  asked-before : (s : State) (list : List Made) (version : ℕ) → in_state s ≡ None → IsSome (stood s list version) → (place : ℕ) × (place < version) × Asked s list place
  unfolding after
  asked-before s list zero none is = absurd (no-query (in_state s) none is)
  asked-before s [] (suc version) none is = absurd (no-query (in_state s) none is)
  asked-before s (made ∷ list) (suc version) none is = go (in_state next) refl (λ now. asked-before next list version now is)
    where
      next : State
      next = (apply g s made.step).state

      go : (o : Option Standing) → in_state next ≡ o → (in_state next ≡ None → (place : ℕ) × (place < version) × Asked next list place) → (place : ℕ) × (place < suc version) × Asked s (made ∷ list) place
      go None now later =
          let found = later now in
          (suc found.0, (let low : suc found.0 < suc version = omega (arith, found.1) in low), found.2)
      go (Some y) now later =
          let came = query-came _ _ (in_state s) (in_state next) (step-moves g s n made.step) none (rw now refl) in
          (zero, (let low : zero < suc version = omega arith in low), (none, came.0))

  -- the step there is an Ask that was replied this serial
  abbrev AsksAt : State → List Made → ℕ → Type 0
  AsksAt s list place =
      (domain : ℕ) × (retry : ℕ) × (line : Text) × (made_step list (suc place) ≡ Some (Step.Ask domain retry line))
      × ((apply g (after g s (steps_made (take place list))) (Step.Ask domain retry line)).reply ≡ Some (Reply.Ask (Held.Serial (suc n))))

  held-there : (o : Option Standing) → HeldIn o → IsSome o
  held-there o (x, is, held) = rw is refl

  asks : (s : State) (list : List Made) (place : ℕ) → Asked s list place → AsksAt s list place
  unfolding after
  asks s [] zero (none, held) = absurd (no-query (in_state s) none (held-there (in_state s) held))
  asks s [] (suc place) (none, held) = absurd (no-query (in_state s) none (held-there (in_state s) held))
  asks s (made ∷ list) zero (none, held) =
      let came = query-came _ _ (in_state s) (in_state (apply g s made.step).state) (step-moves g s n made.step) none (held-there (in_state (apply g s made.step).state) held) in
      let draws : Draws made.step (apply g s made.step) (suc n) = came.1 in
      (draws.0, draws.1, draws.2, ap (λ (step : Step). Some step) draws.3, subst (λ (step : Step). (apply g s step).reply ≡ Some (Reply.Ask (Held.Serial (suc n)))) draws.3 draws.4)
  asks s (made ∷ list) (suc place) at = asks (apply g s made.step).state list place at

  is-asked : (s : State) (list : List Made) (place : ℕ) → AsksAt s list place → Asked s list place
  unfolding after
  is-asked s [] place (d, retry, line, there, reply) = absurd cc
  is-asked s (made ∷ list) zero (d, retry, line, there, reply) =
      subst (λ (step : Step). (in_state s ≡ None) × HeldIn (in_state (apply g s step).state)) (sym (let same : made.step ≡ Step.Ask d retry line = cc in same))
      (ask-draws g s n d retry line reply)
  is-asked s (made ∷ list) (suc place) at = is-asked (apply g s made.step).state list place at

  asked-once : (s : State) (list : List Made) (p q : ℕ) → Asked s list p → Asked s list q → p < q → ⊥
  asked-once s list p q first second before =
      let still : IsSome (stood s list q) = to-version IsSome query-lasts s list (suc p) q (omega arith) (held-there (stood s list (suc p)) first.1) in
      no-query (stood s list q) second.0 still

-- Two numbers of which none is below the other

one-number : (p q : ℕ) → (p < q → ⊥) → (q < p → ⊥) → q ≡ p
one-number p q above below = by_order (cases_lt p q) (cases_lt q p)
  where
    by_order : (p < q) ⊎ (q ≤ p) → (q < p) ⊎ (p ≤ q) → q ≡ p
    by_order (inl low) other = absurd (above low)
    by_order (inr high) (inl low) = absurd (below low)
    by_order (inr high) (inr low) = omega arith

-- A machine's list

module _ (g : Grammar) (start : Start) (list : List Made) where
  -- a serial is from 1
  given-at : (n : ℕ) (given : Answered) (place : ℕ) → Given g n (opening start) list given place → IsGivenAt g start list (suc n) given place
  unfolding answer_of
  given-at n given place at = record { before = at.0; after = at.1 }

  is-given : (n : ℕ) (given : Answered) (place : ℕ) → IsGivenAt g start list (suc n) given place → Given g n (opening start) list given place
  unfolding answer_of
  is-given n given place at = (at.before, at.after)

  not-held : (queries : Queries) → IsHeld queries zero → ⊥
  not-held queries (s, there, held) = cc

  pub given-at-one : (serial : ℕ) (given : Answered) → answer_of (queries_made g start list) serial ≡ Some given → ExactlyOne (IsGivenAt g start list serial given)
  unfolding answer_of
  given-at-one zero given is = absurd cc
  given-at-one (suc n) given is =
      let found = given-somewhere g n (opening start) list given refl is in (
        found.0,
        given-at n given found.0 found.1,
        λ other at.
            let again : Given g n (opening start) list given other = is-given n given other at in
            one-number found.0 other
            (given-once g n (opening start) list given given found.0 other found.1 again)
            (given-once g n (opening start) list given given other found.0 again found.1),
      )

  pub given-has-cause : (serial : ℕ) (given : Answered) (place : ℕ) → IsGivenAt g start list serial given place → HasCause list serial given place
  given-has-cause zero given place at = absurd (not-held (queries_at g start list place) at.before)
  given-has-cause (suc n) given place at = caused g n (opening start) list given place (is-given n given place at)

  pub given-after-ask : (serial : ℕ) (given : Answered) (place : ℕ) → IsGivenAt g start list serial given place → (asked : ℕ) × (asked < place) × IsAskedAt g start list serial asked
  given-after-ask zero given place at = absurd (not-held (queries_at g start list place) at.before)
  given-after-ask (suc n) given place at =
      let found = asked-before g n (opening start) list place refl (held-there g n (stood g n (opening start) list place) at.before) in
      (found.0, found.1, record { before = found.2.0; after = found.2.1 })

  pub given-lasts : (serial : ℕ) (given : Answered) (place version : ℕ) → IsGivenAt g start list serial given place → place < version → answer_of (queries_at g start list version) serial ≡ Some given
  unfolding answer_of
  given-lasts zero given place version at later = absurd (not-held (queries_at g start list place) at.before)
  given-lasts (suc n) given place version at later =
      to-version g n (λ o. answer_in o ≡ Some given) (answer-lasts g n given) (opening start) list (suc place) version (omega arith) at.after

  not-there : (queries : Queries) → IsSome (numbered queries.all zero) → ⊥
  not-there queries is = cc

  asked-at : (n place : ℕ) → Asked g n (opening start) list place → IsAskedAt g start list (suc n) place
  asked-at n place at = record { before = at.0; after = at.1 }

  pub asked-at-one : (serial : ℕ) → IsSome (numbered (queries_made g start list).all serial) → ExactlyOne (IsAskedAt g start list serial)
  asked-at-one zero is = absurd (not-there (queries_made g start list) is)
  asked-at-one (suc n) is =
      let all : IsSome (stood g n (opening start) list (length list)) = subst (λ (l : List Made). IsSome (in_state g n (after g (opening start) (steps_made l)))) (sym (take-length list)) is in
      let found = asked-before g n (opening start) list (length list) refl all in (
        found.0,
        asked-at n found.0 found.2,
        λ other at.
            one-number found.0 other
            (asked-once g n (opening start) list found.0 other found.2 (at.before, at.after))
            (asked-once g n (opening start) list other found.0 (at.before, at.after) found.2),
      )

  asked-by-ask : (serial place : ℕ) → IsAskedAt g start list serial place → IsAsk g start list serial place
  asked-by-ask zero place at = absurd (not-held (queries_at g start list (suc place)) at.after)
  asked-by-ask (suc n) place at =
      let found = asks g n (opening start) list place (at.before, at.after) in
      record { domain = found.0; retry = found.1; line = found.2; there = found.3; reply = found.4 }

  ask-is-asked : (serial place : ℕ) → IsAsk g start list serial place → IsAskedAt g start list serial place
  ask-is-asked zero place at = absurd (no-serial g (state_made g start (take place list)) at.domain at.retry at.line at.reply)
  ask-is-asked (suc n) place at =
      let found = is-asked g n (opening start) list place (at.domain, at.retry, at.line, at.there, at.reply) in
      record { before = found.0; after = found.1 }

  pub asked-is-ask : (serial place : ℕ) → IsAskedAt g start list serial place ↔ IsAsk g start list serial place
  asked-is-ask serial place = (asked-by-ask serial place, ask-is-asked serial place)

  -- what gives an answer stands after the Ask
  gives-after-ask : (serial : ℕ) (given : Answered) → answer_of (queries_made g start list) serial ≡ Some given → StandsAfterAsk g start list serial (Gives serial given)
  gives-after-ask serial given is =
      let one = given-at-one serial given is in
      let cause = given-has-cause serial given one.0 one.1 in
      let before = given-after-ask serial given one.0 one.1 in
      record { asked = before.0; place = one.0; step = cause.0; ask = asked-by-ask serial before.0 before.2; later = before.1; there = cause.1; such = cause.2 }

  pub detached-after-ask : (serial : ℕ) → answer_of (queries_made g start list) serial ≡ Some Answered.Detached → StandsAfterAsk g start list serial IsDetach
  detached-after-ask serial is = gives-after-ask serial Answered.Detached is

  pub answered-after-ask : (serial : ℕ) (given : Answered) → answer_of (queries_made g start list) serial ≡ Some given → ¬ (given ≡ Answered.Detached) → StandsAfterAsk g start list serial (IsAnswer serial given)
  answered-after-ask serial Answered.Yes is other = gives-after-ask serial Answered.Yes is
  answered-after-ask serial Answered.No is other = gives-after-ask serial Answered.No is
  answered-after-ask serial Answered.Retry is other = gives-after-ask serial Answered.Retry is
  answered-after-ask serial Answered.Detached is other = absurd (other refl)
