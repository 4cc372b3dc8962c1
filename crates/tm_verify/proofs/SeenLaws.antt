-- A look beside the verdict of its version, and what it has heard.
use Rattle.std.proofs.Common.{◌≡◌, ◌≤◌, ℕ, zero, suc, Bool, true, false, [], ◌∷◌, length, take, map, Option, Some, None, refl, sym, ap, ◌∙◌, subst}
use Rattle.std.specs.Prelude.{◌↔◌, option_map, Result, Ok, Err, IfOk}
use Rattle.std.specs.Option.{IfSome}
use Rattle.tm_rules.specs.Types.{Answered, Heard, Held, Look, Proc, Reply, Request, Verdict}
use Rattle.tm_rules.specs.Prelude.{answer_of, audit_text}
use Rattle.tm_core.specs.Tomoyo.{tomoyo_grammar}
use Rattle.tm_legal.specs.Prelude.{Case, Hears, History, IsShown, LookHolds, MakesAfterYes, OwnSteps, RisesFrom, Scene, State, after, look_grants, newest, opening_of, retry_written, state_at, step_at, steps_asked, steps_of, subject_of}
use Rattle.tm_legal.specs.Legal as legal
use Rattle.tm_take.specs.declared.judged.Judged.{Judged}
use Rattle.tm_core.specs.Judging.{judged}
use Rattle.tm_take.specs.Looking.{verdict_at}
use Rattle.tm_verify_notes.specs.declared.given.Given.{Given}
use Rattle.tm_verify_notes.specs.declared.notes.VerdictNote.{VerdictNote}
use Rattle.tm_verify_notes.specs.Given.{scene_of, history_of}
use Rattle.tm_verify_notes.specs.Noting.{IsVerdictNote, IsSeen}
use Rattle.tm_verify.specs.Seeing.{IsNotedBeside}

-- ---- at a version

-- the steps up to a version
pub steps_up_to : (k : ℕ) (history : History) → steps_of (take k history) ≡ take k (steps_of history)
steps_up_to zero history = refl
steps_up_to (suc k) [] = refl
steps_up_to (suc k) (pair ∷ history) = ap (λ steps. pair.0 ∷ steps) (steps_up_to k history)

-- the state after so many steps is that of the version
pub state_at_is : (scene : Scene) (history : History) (k : ℕ) → newest scene (take k history) ≡ state_at scene history k
state_at_is scene history k = ap (after scene.grammar (opening_of scene)) (steps_up_to k history)

-- at its version the machine's state is that of the version
pub at_version : (scene : Scene) (history : History) (s : State) (k version : ℕ) → s ≡ newest scene (take k history) → k ≡ version → s ≡ state_at scene history version
at_version scene history s k version e same = e ∙ state_at_is scene history k ∙ ap (state_at scene history) same

-- what was found is the verdict with its audit text
pub found_is : (s : State) (d : ℕ) (process : Proc) (request : Request) (found : Judged) → judged s d process request ≡ Some found
    → (verdict_at s d process request ≡ Some found.verdict) × (found.audit ≡ audit_text tomoyo_grammar s.policy d process request found.verdict)
found_is s d process request found e = go (verdict_at s d process request) refl e
  where
    shows : Verdict → Judged
    shows v = record { verdict = v; audit = audit_text tomoyo_grammar s.policy d process request v }

    go : (o : Option Verdict) → verdict_at s d process request ≡ o → option_map shows o ≡ Some found → (verdict_at s d process request ≡ Some found.verdict) × (found.audit ≡ audit_text tomoyo_grammar s.policy d process request found.verdict)
    go None is f = absurd cc
    go (Some v) is f =
        let same : shows v ≡ found = cc in
        subst (λ (j : Judged). (verdict_at s d process request ≡ Some j.verdict) × (j.audit ≡ audit_text tomoyo_grammar s.policy d process request j.verdict)) same (is, refl)

pub not_found : (s : State) (d : ℕ) (process : Proc) (request : Request) → judged s d process request ≡ None → verdict_at s d process request ≡ None
not_found s d process request e = go (verdict_at s d process request) e
  where
    shows : Verdict → Judged
    shows v = record { verdict = v; audit = audit_text tomoyo_grammar s.policy d process request v }

    go : (o : Option Verdict) → option_map shows o ≡ None → o ≡ None
    go None f = refl
    go (Some v) f = absurd cc

-- a look whose version has a verdict
pub seen_some : (given : Given) (c : Case) (look : Look) (s : State) (found : Judged) (note : VerdictNote)
    → s ≡ state_at (scene_of given) (history_of given) look.version
    → judged s c.taken.before c.now.process c.request ≡ Some found
    → IsVerdictNote (history_of given) c.taken.before c.taken.audit found.audit look found.verdict note
    → IsSeen (scene_of given) (history_of given) (c, look) note
seen_some given c look s found note at e n =
    let scene : Scene = scene_of given in
    let h : History = history_of given in
    let f = found_is s c.taken.before c.now.process c.request found e in
    let v : legal.verdict_at scene h (subject_of c) look.version ≡ Some found.verdict = subst (λ t. verdict_at t c.taken.before c.now.process c.request ≡ Some found.verdict) at f.0 in
    let audit : found.audit ≡ audit_text tomoyo_grammar (state_at scene h look.version).policy c.taken.before c.now.process c.request found.verdict =
    subst (λ t. found.audit ≡ audit_text tomoyo_grammar t.policy c.taken.before c.now.process c.request found.verdict) at f.1 in
    record {
      shown = (
        λ yes. (found.verdict, v, n.shown.0 yes),
        λ held. n.shown.1 (let same : held.0 ≡ found.verdict = (let one = held.1 in cc) in subst (λ w. IsShown w look) same held.2),
      );
      owns = (
        λ yes. let o = n.owns.0 yes in
            record {
              asked = subst (λ w. IfSome w (λ x. map (step_at h) look.own ≡ map Some (steps_asked tomoyo_grammar c.taken.before (retry_written h look) x (look_grants look)))) (sym v) o.asked;
              rising = o.rising;
              after_yes = o.after_yes;
            },
        λ o. n.owns.1 (record {
          asked = subst (λ w. IfSome w (λ x. map (step_at h) look.own ≡ map Some (steps_asked tomoyo_grammar c.taken.before (retry_written h look) x (look_grants look)))) v o.asked;
          rising = o.rising;
          after_yes = o.after_yes;
        }),
      );
      audited = (
        λ yes. subst (λ w. IfSome w (λ x. c.taken.audit ≡ audit_text tomoyo_grammar (state_at scene h look.version).policy c.taken.before c.now.process c.request x)) (sym v) (n.audited.0 yes ∙ audit),
        λ told. n.audited.1 (subst (λ w. IfSome w (λ x. c.taken.audit ≡ audit_text tomoyo_grammar (state_at scene h look.version).policy c.taken.before c.now.process c.request x)) v told ∙ sym audit),
      );
    }

-- a look whose version has none
pub seen_none : (given : Given) (c : Case) (look : Look) (s : State) (owns : Bool)
    → s ≡ state_at (scene_of given) (history_of given) look.version
    → judged s c.taken.before c.now.process c.request ≡ None
    → (owns ≡ true) ↔ (RisesFrom look.version look.own × MakesAfterYes look)
    → IsSeen (scene_of given) (history_of given) (c, look) (record { shown = false; owns = owns; audited = true })
seen_none given c look s owns at e order =
    let scene : Scene = scene_of given in
    let h : History = history_of given in
    let v : legal.verdict_at scene h (subject_of c) look.version ≡ None = subst (λ t. verdict_at t c.taken.before c.now.process c.request ≡ None) at (not_found s c.taken.before c.now.process c.request e) in
    record {
      shown = (λ yes. absurd cc, λ held. let one = held.1 in absurd cc);
      owns = (
        λ yes. let o = order.0 yes in
            record {
              asked = subst (λ w. IfSome w (λ x. map (step_at h) look.own ≡ map Some (steps_asked tomoyo_grammar c.taken.before (retry_written h look) x (look_grants look)))) (sym v) tt;
              rising = o.0;
              after_yes = o.1;
            },
        λ o. order.1 (o.rising, o.after_yes),
      );
      audited = (
        λ yes. subst (λ w. IfSome w (λ x. c.taken.audit ≡ audit_text tomoyo_grammar (state_at scene h look.version).policy c.taken.before c.now.process c.request x)) (sym v) tt,
        λ told. refl,
      );
    }

-- a look beside what its version shows
pub seen_beside : (given : Given) (c : Case) (look : Look) (s : State) (k : ℕ) (found : Option Judged) (note : VerdictNote)
    → s ≡ newest (scene_of given) (take k (history_of given)) → k ≡ look.version
    → found ≡ judged s c.taken.before c.now.process c.request
    → IsNotedBeside (history_of given) c look found note
    → IsSeen (scene_of given) (history_of given) (c, look) note
seen_beside given c look s k None note at same e n =
    let here = at_version (scene_of given) (history_of given) s k look.version at same in
    let is : note ≡ record { shown = false; owns = note.owns; audited = true } = rw (← n.0, ← n.2) refl in
    subst (IsSeen (scene_of given) (history_of given) (c, look)) (sym is) (seen_none given c look s note.owns here (sym e) n.1)
seen_beside given c look s k (Some found) note at same e n =
    seen_some given c look s found note (at_version (scene_of given) (history_of given) s k look.version at same) (sym e) n

-- where memory was given
pub seen_made : {E : Type 0} (given : Given) (c : Case) (look : Look) (s : State) (k : ℕ) (found : Option Judged) (made : Result VerdictNote E)
    → s ≡ newest (scene_of given) (take k (history_of given)) → k ≡ look.version
    → found ≡ judged s c.taken.before c.now.process c.request
    → IfOk made (IsNotedBeside (history_of given) c look found)
    → IfOk made (IsSeen (scene_of given) (history_of given) (c, look))
seen_made given c look s k found (Ok note) at same e n = seen_beside given c look s k found note at same e n
seen_made given c look s k found (Err fault) at same e n = tt

-- ---- what was heard

-- what was heard has one answer and one version
abbrev heard_of : Answered → ℕ → Option Heard
heard_of answer version = Some (record { answer = Some answer; version = version })

heard_same : (a b : Answered) (v w : ℕ) → heard_of a v ≡ heard_of b w → (a ≡ b) × (v ≡ w)
heard_same a b v w e =
    let version : Some v ≡ Some w = ap (λ (o : Option Heard). option_map (λ (h : Heard). h.version) o) e in
    let answer : Some (Some a) ≡ Some (Some b) = ap (λ (o : Option Heard). option_map (λ (h : Heard). h.answer) o) e in
    (cc, cc)

-- an answer at the version that was heard
pub hears_is : (scene : Scene) (history : History) (s : State) (number serial version : ℕ) (answer : Answered) (b : Bool) → s ≡ state_at scene history version → number ≤ version → version ≤ length history
    → (b ≡ true) ↔ (answer_of s.queries serial ≡ Some answer)
    → (b ≡ true) ↔ Hears scene history number (Some (Reply.Ask (Held.Serial serial))) (Some (record { answer = Some answer; version = version }))
hears_is scene history s number serial version answer b at low high h = (
  λ e. (answer, version, refl, low, high, subst (λ (t : State). answer_of t.queries serial ≡ Some answer) at (h.0 e)),
  λ p. let same = heard_same answer p.0 version p.1 p.2 in
      let there : answer_of (state_at scene history version).queries serial ≡ Some p.0 = subst (λ (v : ℕ). answer_of (state_at scene history v).queries serial ≡ Some p.0) (sym same.1) p.5 in
      h.1 (subst (λ (t : State). answer_of t.queries serial ≡ Some answer) (sym at) (there ∙ ap (λ (a : Answered). Some a) (sym same.0))),
)
