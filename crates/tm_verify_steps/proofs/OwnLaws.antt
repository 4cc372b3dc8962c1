-- The own steps that a verdict asks for.
use Rattle.std.proofs.Common.{◌≡◌, ℕ, Bool, true, false, List, [], ◌∷◌, ◌++◌, ◌&&◌, map, Option, Some, None, refl, sym, ap, ◌∙◌, subst}
use Rattle.std.specs.Prelude.{if◌then◌else◌, ⊤, ◌↔◌}
use Rattle.std.proofs.lemmas.List.{append-nil}
use Rattle.tm_word.specs.Prelude.{Text}
use Rattle.tm_rules.specs.Types.{Entry, EntryPlace, Look, Reason, Step, Verdict}
use Rattle.tm_rules.specs.Prelude.{Grammar}
use Rattle.tm_verify_notes.specs.Tomoyo.{tomoyo_grammar}
use Rattle.tm_legal.specs.Prelude.{History, IsShown, MakesAfterYes, RisesFrom, look_grants, retry_written, step_at, steps_asked, steps_of_line, steps_of_move}
use Rattle.tm_verify_laws.specs.Looks.{rises_from, is_after_answer}
use Rattle.tm_verify_notes.specs.declared.notes.VerdictNote.{VerdictNote}
use Rattle.tm_verify_notes.specs.Noting.{IsVerdictNote}
use Rattle.tm_verify_notes.proofs.NoteLaws.{owns_is, order_is}

abbrev led : ℕ → Verdict → Bool → List Step
led before v granted = if granted then steps_of_move before v else []

pub learn_asked : (g : Grammar) (before retry : ℕ) (v : Verdict) (granted : Bool) (line : Entry) → v.reason ≡ Reason.Learn → v.line ≡ Some line
    → steps_asked g before retry v granted ≡ Step.Learn before line ∷ (if granted then steps_of_move before v else [])
unfolding steps_asked
learn_asked g before retry v granted line r l = let here : steps_of_line g before retry v ≡ Step.Learn before line ∷ [] = rw (r, l) refl in ap (λ xs. xs ++ led before v granted) here

pub learn_none : (g : Grammar) (before retry : ℕ) (v : Verdict) (granted : Bool) → v.reason ≡ Reason.Learn → v.line ≡ None
    → steps_asked g before retry v granted ≡ (if granted then steps_of_move before v else [])
unfolding steps_asked
learn_none g before retry v granted r l = let here : steps_of_line g before retry v ≡ [] = rw (r, l) refl in ap (λ xs. xs ++ led before v granted) here

pub ask_asked : (g : Grammar) (before retry : ℕ) (v : Verdict) (granted : Bool) (line : Entry) → v.reason ≡ Reason.Ask → v.line ≡ Some line
    → steps_asked g before retry v granted ≡ Step.Ask before retry (g.print_entry line) ∷ (if granted then steps_of_move before v else [])
unfolding steps_asked
ask_asked g before retry v granted line r l = let here : steps_of_line g before retry v ≡ Step.Ask before retry (g.print_entry line) ∷ [] = rw (r, l) refl in ap (λ xs. xs ++ led before v granted) here

pub ask_none : (g : Grammar) (before retry : ℕ) (v : Verdict) (granted : Bool) → v.reason ≡ Reason.Ask → v.line ≡ None
    → steps_asked g before retry v granted ≡ (if granted then steps_of_move before v else [])
unfolding steps_asked
ask_none g before retry v granted r l = let here : steps_of_line g before retry v ≡ [] = rw (r, l) refl in ap (λ xs. xs ++ led before v granted) here

-- a reason that asks for no line
abbrev pub AsksNoLine : Reason → Type 0
AsksNoLine Reason.Learn = ⊥
AsksNoLine Reason.Ask = ⊥
AsksNoLine _ = ⊤

pub others_asked : (g : Grammar) (before retry : ℕ) (v : Verdict) (granted : Bool) → AsksNoLine v.reason
    → steps_asked g before retry v granted ≡ (if granted then steps_of_move before v else [])
unfolding steps_asked
others_asked g before retry v granted h = ap (λ xs. xs ++ led before v granted) (go v.reason refl h)
  where
    go : (r : Reason) → v.reason ≡ r → AsksNoLine r → steps_of_line g before retry v ≡ []
    go Reason.Learn e h = absurd h
    go Reason.Ask e h = absurd h
    go (Reason.Entry place) e h = rw e refl
    go Reason.Disabled e h = rw e refl
    go Reason.Permissive e h = rw e refl
    go Reason.Quota e h = rw e refl
    go Reason.NoEntry e h = rw e refl
    go Reason.NotReady e h = rw e refl
    go Reason.NoManual e h = rw e refl

-- what is noted of a look
pub verdict_noted : (history : History) (before retry : ℕ) (own : List ℕ) (granted : Bool) (audit found : Option Text) (look : Look) (v : Verdict) (shown asked ordered owns audited : Bool)
    → retry ≡ retry_written history look → own ≡ look.own → granted ≡ look_grants look
    → (shown ≡ true) ↔ IsShown v look
    → (asked ≡ true) ↔ (map (step_at history) own ≡ map Some (steps_asked tomoyo_grammar before retry v granted))
    → ordered ≡ (rises_from look.version look.own && is_after_answer look.reason look.heard look.own) → owns ≡ (asked && ordered)
    → (audited ≡ true) ↔ (audit ≡ found)
    → IsVerdictNote history before audit found look v (record { shown = shown; owns = owns; audited = audited })
verdict_noted history before retry own granted audit found look v shown asked ordered owns audited r o g s a d w u =
    let asks : (asked ≡ true) ↔ (map (step_at history) look.own ≡ map Some (steps_asked tomoyo_grammar before (retry_written history look) v (look_grants look))) =
    subst (λ (ns : List ℕ). (asked ≡ true) ↔ (map (step_at history) ns ≡ map Some (steps_asked tomoyo_grammar before (retry_written history look) v (look_grants look)))) o
    (subst (λ (n : ℕ). (asked ≡ true) ↔ (map (step_at history) own ≡ map Some (steps_asked tomoyo_grammar before n v (look_grants look)))) r
    (subst (λ (b : Bool). (asked ≡ true) ↔ (map (step_at history) own ≡ map Some (steps_asked tomoyo_grammar before retry v b))) g a)) in
    let order : (ordered ≡ true) ↔ (RisesFrom look.version look.own × MakesAfterYes look) = subst (λ (b : Bool). (b ≡ true) ↔ (RisesFrom look.version look.own × MakesAfterYes look)) (sym d) (order_is look) in
    let whole = owns_is asked ordered history before look v asks order in
    record {
      shown = s;
      owns = (λ e. whole.0 (sym w ∙ e), λ p. w ∙ whole.1 p);
      audited = u;
    }

-- the numbers of what is asked with this text
pub ask_owned : (history : History) (before retry : ℕ) (own : List ℕ) (v : Verdict) (granted owns : Bool) (line : Entry) (text : Text) → v.reason ≡ Reason.Ask → v.line ≡ Some line
    → text ≡ tomoyo_grammar.print_entry line → (owns ≡ true) ↔ (map (step_at history) own ≡ map Some (Step.Ask before retry text ∷ (if granted then steps_of_move before v else [])))
    → (owns ≡ true) ↔ (map (step_at history) own ≡ map Some (steps_asked tomoyo_grammar before retry v granted))
ask_owned history before retry own v granted owns line text r l t h =
    let asked : steps_asked tomoyo_grammar before retry v granted ≡ Step.Ask before retry text ∷ led before v granted =
    ask_asked tomoyo_grammar before retry v granted line r l ∙ ap (λ (x : Text). Step.Ask before retry x ∷ led before v granted) (sym t) in
    subst (λ (steps : List Step). (owns ≡ true) ↔ (map (step_at history) own ≡ map Some steps)) (sym asked) h
