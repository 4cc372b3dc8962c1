-- A machine that makes given steps one after another.
use Rattle.std.proofs.Common.{◌≡◌, ◌+◌, ℕ, false, List, [], ◌∷◌, ◌++◌, length, take, Option, Some, None, refl, sym, ap, ◌∙◌, subst, arith}
use Rattle.std.specs.Prelude.{slice_get, is_some, ◌↔◌}
use Rattle.std.proofs.lemmas.Option.{slice_get_within, get_or_from_slice_get}
use Rattle.std.proofs.lemmas.List.{take_more, take_all, append_assoc, append-nil}
use Rattle.tm_rules.specs.Types.{Reply, Step}
use Rattle.tm_core.specs.Tomoyo.{tomoyo_grammar}
use Rattle.tm_core.proofs.IsOne.{is_one}
use Rattle.tm_legal.specs.Prelude.{History, IsNamed, Scene, State, apply, newest}
use Rattle.tm_legal.proofs.Named.{step_keeps_names}
use Rattle.tm_verify_laws.proofs.Stays.{state_more}
use Rattle.tm_verify_laws.proofs.Unfit.{unfit_leaves}
use Rattle.tm_verify_notes.specs.declared.given.Given.{Given}
use Rattle.tm_verify_notes.specs.declared.steps.StepNote.{StepNote}
use Rattle.tm_verify.specs.declared.pass.Pass as code
use Rattle.tm_verify_notes.specs.Given.{scene_of, history_of}
use Rattle.tm_verify_notes.specs.Stepping.{IsNotedIn, IsStepNote, AreNoted}
use Rattle.tm_verify.specs.Passing.{IsAt}

-- a step that is passed over has no reply and leaves the state
pub no_reply : (s : State) (step : Step) → is_some (apply tomoyo_grammar s step).reply ≡ false → None ≡ (apply tomoyo_grammar s step).reply
no_reply s step e = go (apply tomoyo_grammar s step).reply e
  where
    go : (o : Option Reply) → is_some o ≡ false → None ≡ o
    go None h = refl
    go (Some r) h = absurd cc

pub passed_over : (s : State) (step : Step) → is_some (apply tomoyo_grammar s step).reply ≡ false → s ≡ (apply tomoyo_grammar s step).state
passed_over s step e = sym (unfit_leaves tomoyo_grammar s step e)

-- one note more
pub noted_more : (scene : Scene) (before pairs : History) (notes : List StepNote) (pair : Step × Reply) (note : StepNote)
    → AreNoted scene before pairs notes → IsStepNote scene (before ++ pairs) pair note → AreNoted scene before (pairs ++ pair ∷ []) (notes ++ note ∷ [])
noted_more scene before [] [] pair note h here = (subst (λ bs. IsStepNote scene bs pair note) (append-nil before) here, tt)
noted_more scene before [] (n ∷ notes) pair note h here = absurd h
noted_more scene before (p ∷ pairs) [] pair note h here = absurd h
noted_more scene before (p ∷ pairs) (n ∷ notes) pair note h here =
    (h.0, noted_more scene (before ++ p ∷ []) pairs notes pair note h.1 (subst (λ bs. IsStepNote scene bs pair note) (sym (append_assoc before (p ∷ []) pairs)) here))

-- the steps up to one version more
pub steps_more : (history : History) (k : ℕ) (pair : Step × Reply) → slice_get history k ≡ Some pair → take (k + 1) history ≡ take k history ++ pair ∷ []
steps_more history k pair at = take_more history k pair (slice_get_within history k pair at) ∙ ap (λ p. take k history ++ p ∷ []) (get_or_from_slice_get history k pair pair at)

-- one given step more
pub one_more : {R : Type 0} (given : Given) (old new : code.Pass R) (step : Step) (reply : Reply) (note : StepNote)
    → IsAt given old
    → slice_get (history_of given) old.version ≡ Some (step, reply)
    → new.version ≡ old.version + 1
    → new.machine.state ≡ (apply tomoyo_grammar old.machine.state step).state
    → new.notes.items ≡ old.notes.items ++ note ∷ []
    → IsNotedIn (scene_of given).book old.machine.state step reply note
    → IsAt given new
one_more given old new step reply note at there version state notes noted =
    let pair : Step × Reply = (step, reply) in
    let h : History = history_of given in
    let front = take old.version h in
    let within = slice_get_within h old.version pair there in
    let more : take new.version h ≡ front ++ pair ∷ [] = ap (λ v. take v h) version ∙ steps_more h old.version pair there in
    let before = at.state in
    let here : IsStepNote (scene_of given) front pair note = subst (λ s. IsNotedIn (scene_of given).book s step reply note) before noted in
    record {
      within = omega (arith, within, version);
      state = state ∙ ap (λ s. (apply tomoyo_grammar s step).state) before ∙ sym (state_more (scene_of given) front pair) ∙ ap (newest (scene_of given)) (sym more);
      named = subst (λ s. IsNamed tomoyo_grammar.is_path s.policy) (sym state) (step_keeps_names tomoyo_grammar old.machine.state step is_one at.named);
      noted = subst (λ hs. AreNoted (scene_of given) [] hs new.notes.items) (sym more) (subst (λ ns. AreNoted (scene_of given) [] (front ++ pair ∷ []) ns) (sym notes) (noted_more (scene_of given) [] front old.notes.items pair note at.noted here));
    }

-- at the last version all steps are noted
pub all_noted : {R : Type 0} (given : Given) (pass : code.Pass R) → IsAt given pass → pass.version ≡ length (history_of given) → AreNoted (scene_of given) [] (history_of given) pass.notes.items
all_noted given pass at last = subst (λ hs. AreNoted (scene_of given) [] hs pass.notes.items) (ap (λ v. take v (history_of given)) last ∙ take_all (length (history_of given)) (history_of given) (omega arith)) at.noted
