-- What a supervisor did at an engine of a machine is what a legal run asks of it.
use Rattle.std.proofs.Common.{◌≡◌, ◌≤◌, ◌<◌, ℕ, zero, suc, List, [], ◌∷◌, ◌++◌, length, take, Some, refl, ap, ◌∙◌, subst, arith, inl, inr, ◌⊎◌, ⊎_elim}
use Rattle.std.specs.Prelude.{Option, option_map, IfSome, Bool}
use mathlib.Core.List.{IsPrefix}
use Rattle.tm_rules.specs.Types.{Book, Made, Maker, Query, Start, Step}
use Rattle.tm_rules.specs.Prelude.{first_query, numbered}
use Rattle.tm_legal.specs.Prelude.{RisesFrom, Scene, State, all_ended, last_from, state_at}
use Rattle.tm_made.specs.Made.{start_in, state_made, history_made, made_step}
use Rattle.tm_made.proofs.Telling.{state_at-take}
use Rattle.tm_joint.specs.Played as joint
use Rattle.tm_joint.proofs.Rising.{RisesFrom-low}
use Rattle.tm_serve.specs.Serving.{AnswersFirst, AnswersFrom, AllWasDone}
use Rattle.tm_serve.proofs.Answering.{numbered_later, get_within, take_grows}

-- a step of the supervisor
abbrev pub by_desk : Step → Made
by_desk step = record { maker = Maker.Desk; step = step }

-- the first query without an answer after these steps
abbrev pub first_in : Scene → Start → List Made → Option Query
first_in scene start list = first_query (state_made scene.grammar start list).queries

-- every tree has ended after these steps
abbrev pub over_in : Scene → Start → List Made → Bool
over_in scene start list = all_ended scene.grammar (state_made scene.grammar start list)

-- the Answer to a serial with a code
abbrev pub answer_in : ℕ → ℕ → Made
answer_in serial code = by_desk (Step.Answer serial code)

-- each list begins the closing one
module _ (scene : Scene) (known list : List Made) (begins : IsPrefix known list) (book : Book) where
  state_seen : (version n : ℕ) (made : Made) → version < n → numbered known n ≡ Some made → state_at scene (history_made scene list) version ≡ state_made scene.grammar (start_in scene) (take version known)
  state_seen version zero made lt e = absurd (omega (arith, lt))
  state_seen version (suc k) made lt e =
      let within : k < length known = get_within known k made e in
      let low : version ≤ length known = omega (arith, lt) in
      state_at-take scene list version
      ∙ ap (state_made scene.grammar (start_in scene)) (subst (λ l. take version l ≡ take version known) begins.1 (take_grows known begins.0 version low))

  step_seen : (n : ℕ) (made : Made) → numbered known n ≡ Some made → made_step list n ≡ Some made.step
  step_seen n made e = ap (option_map (λ (m : Made). m.step)) (numbered_later known list n made begins e)

  first_did : (last n : ℕ) → AnswersFirst (first_in scene) answer_in (start_in scene) book known last n → joint.AnswersFirst scene list book last n
  first_did last n h =
      record {
        version = h.version;
        query = h.query;
        since = h.since;
        before = h.before;
        first = ap (λ (s : State). first_query s.queries) (state_seen h.version n _ h.before h.answers) ∙ h.first;
        answer = step_seen n _ h.answers;
      }

  from_did : (last : ℕ) (answers : List ℕ) → AnswersFrom (first_in scene) answer_in (start_in scene) book known last answers → joint.AnswersFrom scene list book last answers
  from_did last [] h = tt
  from_did last (n ∷ answers) h = (first_did last n h.0, from_did n answers h.1)

  -- what was so since a version was so since an earlier one
  from_low : (low last : ℕ) (answers : List ℕ) → low ≤ last → joint.AnswersFrom scene list book last answers → joint.AnswersFrom scene list book low answers
  from_low low last [] le h = tt
  from_low low last (n ∷ answers) le h =
      (record { version = h.0.version; query = h.0.query; since = (let since : last ≤ h.0.version = h.0.since in omega arith); before = h.0.before; first = h.0.first; answer = h.0.answer }, h.1)

  last_low : (low last : ℕ) (answers : List ℕ) → low ≤ last → last_from low answers ≤ last_from last answers
  last_low low last [] le = le
  last_low low last (n ∷ answers) le = omega arith

  all_did : (low last detach : ℕ) (answers : List ℕ) (made : Made) → low ≤ last → numbered known detach ≡ Some made → AllWasDone (first_in scene) (over_in scene) (start_in scene) known (last_from last answers) detach → joint.AllWasDone scene list (last_from low answers) detach
  all_did low last detach answers made le e h =
      let since : last_from last answers ≤ h.version = h.since in
      let less : last_from low answers ≤ last_from last answers = last_low low last answers le in
      let state = state_seen h.version detach made h.before e in
      record {
        version = h.version;
        since = omega arith;
        before = h.before;
        none = ap (λ (s : State). first_query s.queries) state ∙ h.none;
        ended = ap (all_ended scene.grammar) state ∙ h.over;
      }

  -- a supervisor that came by step `attach`, and served from then on
  pub desk_did : (attach since left : ℕ) (answers : List ℕ) → 0 < attach → attach ≤ since → numbered known attach ≡ Some (by_desk Step.Attach) → RisesFrom since (answers ++ left ∷ []) → AnswersFrom (first_in scene) answer_in (start_in scene) book known since answers → numbered known left ≡ Some (by_desk Step.Detach) → (book.stop ≡ Some (length answers)) ⊎ AllWasDone (first_in scene) (over_in scene) (start_in scene) known (last_from since answers) left → IfSome book.stop (λ most. length answers ≤ most) → joint.DeskDid scene list book (attach ∷ answers ++ left ∷ [])
  desk_did attach since left answers some le came rises each gone due few =
      record {
        attach = attach;
        answers = answers;
        detach = left;
        numbers_are = refl;
        rising = (some, RisesFrom-low attach since (answers ++ left ∷ []) le rises);
        attach_is = step_seen attach _ came;
        detach_is = step_seen left _ gone;
        each = from_low attach since answers le (from_did since answers each);
        due = ⊎_elim inl (λ done. inr (all_did attach since left answers _ le gone done)) due;
        few = few;
      }
