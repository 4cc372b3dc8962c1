-- The lines of an editor stand in the history in their order: its numbers are the places of its
-- steps.
use Rattle.std.proofs.Common.{◌≡◌, ◌<◌, ℕ, zero, suc, ◌+◌, List, [], ◌∷◌, ◌++◌, length, map, Bool, true, false, refl, sym, ap, ◌∙◌, subst, arith, append_assoc}
use Rattle.std.specs.Prelude.{Option, Some, None, if◌then◌else◌, slice_get, flat_map, filter_map, unwrap_or}
use Rattle.std.proofs.lemmas.Bool.{eq-eqb}
use Rattle.std.proofs.lemmas.List.{length-append}
use Rattle.tm_word.specs.Prelude.{Text}
use Rattle.tm_rules.specs.Types.{Editor, FileKind, Made, Reply, Step}
use Rattle.tm_rules.specs.Prelude.{Grammar, numbered}
use Rattle.tm_legal.specs.Prelude.{Scene, State, apply, edit_line, lines_of_editor, opening_of, times}
use Rattle.tm_made.specs.Made.{steps_made, told_from, history_made, made_step}
use Rattle.tm_made.specs.Made.{numbers_from}
use Rattle.tm_joint.specs.Played.{EditorDid, EachEditor}
use Rattle.tm_made.proofs.Telling.{places-made}
use Rattle.tm_joint.proofs.NumberKinds.{OfKind, EachKind, kind-places, kind-only, edits-apart, edit-is-some, is_edit_of, Dealt, edit-once}

-- the elements that pass
abbrev passing : {A : Type 0} → (A → Bool) → List A → List A
passing test [] = []
passing test (x ∷ xs) = if test x then x ∷ passing test xs else passing test xs

get-middle : {A : Type 0} (front : List A) (x : A) (rest : List A) → slice_get (front ++ x ∷ rest) (length front) ≡ Some x
get-middle [] x rest = refl
get-middle (y ∷ front) x rest = get-middle front x rest

-- the steps at the numbers of those that pass
steps-at : (test : Made → Bool) (front list : List Made) → map (made_step (front ++ list)) (numbers_from (suc (length front)) test list) ≡ map (λ (made : Made). Some made.step) (passing test list)
steps-at test front [] = refl
steps-at test front (made ∷ list) =
    let whole : (front ++ made ∷ []) ++ list ≡ front ++ made ∷ list = append_assoc front (made ∷ []) list in
    let long : length (front ++ made ∷ []) ≡ suc (length front) = length-append front (made ∷ []) ∙ omega arith in
    let ih : map (made_step ((front ++ made ∷ []) ++ list)) (numbers_from (suc (length (front ++ made ∷ []))) test list) ≡ map (λ (m : Made). Some m.step) (passing test list) = steps-at test (front ++ made ∷ []) list in
    go (test made)
    (subst (λ (n : ℕ). map (made_step (front ++ made ∷ list)) (numbers_from (suc n) test list) ≡ map (λ (m : Made). Some m.step) (passing test list)) long
    (subst (λ (l : List Made). map (made_step l) (numbers_from (suc (length (front ++ made ∷ []))) test list) ≡ map (λ (m : Made). Some m.step) (passing test list)) whole ih))
  where
    go : (b : Bool) → map (made_step (front ++ made ∷ list)) (numbers_from (suc (suc (length front))) test list) ≡ map (λ (m : Made). Some m.step) (passing test list) → map (made_step (front ++ made ∷ list)) (if b then suc (length front) ∷ numbers_from (suc (suc (length front))) test list else numbers_from (suc (suc (length front))) test list) ≡ map (λ (m : Made). Some m.step) (if b then made ∷ passing test list else passing test list)
    go true ih = rw (get-middle front made list, ih) refl
    go false ih = ih

-- Lines

line-none : (e : ℕ) (step : Step) (r : Reply) → is_edit_of e step ≡ false → edit_line e (step, r) ≡ None
line-none e (Step.Edit by file line) r other = rw other refl
line-none e (Step.Learn d entry) r other = refl
line-none e (Step.Make d name) r other = refl
line-none e (Step.Fail d) r other = refl
line-none e (Step.Ask d retry line) r other = refl
line-none e (Step.Answer serial code) r other = refl
line-none e Step.Attach r other = refl
line-none e Step.Detach r other = refl
line-none e (Step.End t) r other = refl

line-some : (e : ℕ) (line : FileKind × Text) (step : Step) (r : Reply) → step ≡ Step.Edit e line.0 line.1 → edit_line e (step, r) ≡ Some line
line-some e line step r is = rw (is, eq-eqb e e refl) refl

-- the lines of the steps that are an editor's
lines-of : (e : ℕ) (g : Grammar) (s : State) (list : List Made) (lines : List (FileKind × Text)) → map (λ (made : Made). Some made.step) (passing (λ (made : Made). is_edit_of e made.step) list) ≡ map (λ (line : FileKind × Text). Some (Step.Edit e line.0 line.1)) lines → filter_map (edit_line e) (told_from g s (steps_made list)) ≡ lines
unfolding told_from
lines-of e g s [] [] h = refl
lines-of e g s [] (line ∷ lines) h = absurd cc
lines-of e g s (made ∷ list) lines h = go (is_edit_of e made.step) refl h (λ ls k. lines-of e g (apply g s made.step).state list ls k)
  where
    r : Reply
    r = unwrap_or (apply g s made.step).reply Reply.End

    rest : List (FileKind × Text)
    rest = filter_map (edit_line e) (told_from g (apply g s made.step).state (steps_made list))

    left : List (Option Step)
    left = map (λ (m : Made). Some m.step) (passing (λ (m : Made). is_edit_of e m.step) list)

    first : (ls : List (FileKind × Text)) → Some made.step ∷ left ≡ map (λ (line : FileKind × Text). Some (Step.Edit e line.0 line.1)) ls → ((more : List (FileKind × Text)) → left ≡ map (λ (line : FileKind × Text). Some (Step.Edit e line.0 line.1)) more → rest ≡ more) → filter_map (edit_line e) ((made.step, r) ∷ told_from g (apply g s made.step).state (steps_made list)) ≡ ls
    first [] k ih = absurd cc
    first (line ∷ ls) k ih =
        let is : made.step ≡ Step.Edit e line.0 line.1 = cc in
        let same : left ≡ map (λ (l : FileKind × Text). Some (Step.Edit e l.0 l.1)) ls = cc in
        rw (line-some e line made.step r is, ih ls same) refl

    go : (b : Bool) → is_edit_of e made.step ≡ b → map (λ (m : Made). Some m.step) (if b then made ∷ passing (λ (m : Made). is_edit_of e m.step) list else passing (λ (m : Made). is_edit_of e m.step) list) ≡ map (λ (line : FileKind × Text). Some (Step.Edit e line.0 line.1)) lines → ((more : List (FileKind × Text)) → left ≡ map (λ (line : FileKind × Text). Some (Step.Edit e line.0 line.1)) more → rest ≡ more) → filter_map (edit_line e) ((made.step, r) ∷ told_from g (apply g s made.step).state (steps_made list)) ≡ lines
    go true is k ih = first lines k ih
    go false is k ih = rw (line-none e made.step r is) (ih lines k)

-- Editors

edits-of : (list : List Made) (e : ℕ) (ns : List ℕ) (lines : List (FileKind × Text)) → map (made_step list) ns ≡ map (λ (line : FileKind × Text). Some (Step.Edit e line.0 line.1)) lines → OfKind (is_edit_of e) list ns
edits-of list e [] lines h = tt
edits-of list e (n ∷ ns) [] h = absurd cc
edits-of list e (n ∷ ns) (line ∷ lines) h =
    let first : made_step list n ≡ Some (Step.Edit e line.0 line.1) = cc in
    let rest : map (made_step list) ns ≡ map (λ (l : FileKind × Text). Some (Step.Edit e l.0 l.1)) lines = cc in
    ((Step.Edit e line.0 line.1, first, eq-eqb e e refl), edits-of list e ns lines rest)

pub editors-kind : (list : List Made) (e : ℕ) (editors : List Editor) (nss : List (List ℕ)) → EachEditor (EditorDid list) e editors nss → EachKind is_edit_of list e nss
editors-kind list e [] [] each = tt
editors-kind list e [] (ns ∷ nss) each = absurd each
editors-kind list e (editor ∷ editors) [] each = absurd each
editors-kind list e (editor ∷ editors) (ns ∷ nss) each = (edits-of list e ns editor.lines each.0.1, editors-kind list (suc e) editors nss each.1)

editor-at : (P : ℕ → Editor → List ℕ → Type 0) (e : ℕ) (editors : List Editor) (nss : List (List ℕ)) (n : ℕ) (editor : Editor) → EachEditor P e editors nss → slice_get editors n ≡ Some editor → (ns : List ℕ) × (slice_get nss n ≡ Some ns) × P (e + n) editor ns
editor-at P e [] [] n editor each at = absurd cc
editor-at P e [] (ns ∷ nss) n editor each at = absurd each
editor-at P e (x ∷ editors) [] n editor each at = absurd each
editor-at P e (x ∷ editors) (ns ∷ nss) zero editor each at =
    let same : x ≡ editor = cc in
    let number : e + 0 ≡ e = omega arith in
    (ns, refl, rw number (subst (λ y. P e y ns) same each.0))
editor-at P e (x ∷ editors) (ns ∷ nss) (suc n) editor each at =
    let rest = editor-at P (suc e) editors nss n editor each.1 at in
    let number : e + suc n ≡ suc e + n = omega arith in
    (rest.0, rest.1, rw number rest.2)

-- each editor's lines, in order, each once
pub edits-in-order : (scene : Scene) (list : List Made) (own ends : List ℕ) (editors : List (List ℕ)) (desk : List ℕ) → Dealt list own ends (flat_map (λ (ns : List ℕ). ns) editors) desk → EachEditor (EditorDid list) 1 scene.editors editors → (e : ℕ) (editor : Editor) → numbered scene.editors e ≡ Some editor → lines_of_editor e (history_made scene list) ≡ editor.lines
edits-in-order scene list own ends editors desk dealt each zero editor there = absurd cc
edits-in-order scene list own ends editors desk dealt each (suc n) editor there = go (editor-at (EditorDid list) 1 scene.editors editors n editor each there)
  where
    test : Made → Bool
    test = λ (made : Made). is_edit_of (suc n) made.step

    number : 1 + n ≡ suc n
    number = omega arith

    go : (ns : List ℕ) × (slice_get editors n ≡ Some ns) × EditorDid list (1 + n) editor ns → lines_of_editor (suc n) (history_made scene list) ≡ editor.lines
    go (ns, at, told) =
        let did : EditorDid list (suc n) editor ns = subst (λ k. EditorDid list k editor ns) number told in
        let has : (k : ℕ) (step : Step) → made_step list k ≡ Some step → is_edit_of (suc n) step ≡ true → 0 < times k ns =
        λ k step there_ is.
        let once : times k (flat_map (λ (ms : List ℕ). ms) editors) ≡ 1 = edit-once list own ends (flat_map (λ (ms : List ℕ). ms) editors) desk dealt k step there_ (edit-is-some (suc n) step is) in
        let only : times k (flat_map (λ (ms : List ℕ). ms) editors) ≡ times k ns =
        kind-only is_edit_of edits-apart list k step there_ 1 editors n ns (editors-kind list 1 scene.editors editors each) at (subst (λ j. is_edit_of j step ≡ true) (sym number) is) in
        omega arith in
        let places : numbers_from 1 test list ≡ ns =
        sym (places-made scene (is_edit_of (suc n)) list) ∙ kind-places scene (is_edit_of (suc n)) list ns did.0 (edits-of list (suc n) ns editor.lines did.1) has in
        lines-of (suc n) scene.grammar (opening_of scene) list editor.lines (sym (steps-at test [] list) ∙ ap (map (made_step list)) places ∙ did.1)
