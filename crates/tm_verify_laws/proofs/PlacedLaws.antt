-- The steps of a run have their places exactly where each of them is placed and no line is missing.
use Rattle.std.proofs.Common.{◌≡◌, ℕ, zero, suc, ◌==◌, Bool, true, false, List, [], ◌∷◌, ◌++◌, length, Option, Some, None, refl, sym, ap, ◌∙◌, subst, eq-eqb, eqb-true}
use Rattle.std.specs.Prelude.{if◌then◌else◌, IsSome, is_some, slice_get, unwrap_or}
use Rattle.std.specs.Option.{option_map_or}
use Rattle.std.specs.List.{AllByRecursion, cons_option}
use Rattle.tm_word.specs.Prelude.{Text}
use Rattle.tm_rules.specs.Types.{Editor, FileKind, Reply, Run, Step}
use Rattle.tm_rules.specs.Prelude.{numbered}
use Rattle.tm_legal.specs.Prelude.{History, Scene, StepsHavePlaces, after, apply, edit_line, edit_step, lines_of_editor, newest, own_numbers, step_at, times, times_owned, unfit}
use Rattle.tm_verify_laws.specs.First.{AllAfter}
use Rattle.tm_verify_laws.specs.Placed.{IsNextLine, IsPlaced, NoLineMissing, OwnAreSteps}
use Rattle.tm_verify_laws.proofs.FirstLaws.{at_split, of_splits}
use Rattle.tm_verify_laws.proofs.Splits.{cut_at, step_here}
use Rattle.tm_verify_laws.proofs.Stays.{editors_stay, RepliesAt, replies_at, at_replies}

-- ---- from the clause to each step

pub lines_of : (scene : Scene) (run : Run) → StepsHavePlaces scene run → NoLineMissing scene run.steps
lines_of scene run h = h.edits

-- the lines of a history that is cut at an edit
lines_cut : (e : ℕ) (before : History) (file : FileKind) (line : Text) (reply : Reply) (rest : History) → lines_of_editor e (before ++ (Step.Edit e file line, reply) ∷ rest) ≡ lines_of_editor e before ++ (file, line) ∷ lines_of_editor e rest
lines_cut e [] file line reply rest = let same : (e == e) ≡ true = eq-eqb e e refl in rw same refl
lines_cut e (pair ∷ before) file line reply rest = go (edit_line e pair) (lines_cut e before file line reply rest)
  where
    go : (o : Option (FileKind × Text)) → lines_of_editor e (before ++ (Step.Edit e file line, reply) ∷ rest) ≡ lines_of_editor e before ++ (file, line) ∷ lines_of_editor e rest
        → cons_option o (lines_of_editor e (before ++ (Step.Edit e file line, reply) ∷ rest)) ≡ cons_option o (lines_of_editor e before) ++ (file, line) ∷ lines_of_editor e rest
    go None h = h
    go (Some x) h = ap (λ xs. x ∷ xs) h

get_at : {A : Type 0} (xs : List A) (x : A) (ys : List A) → slice_get (xs ++ x ∷ ys) (length xs) ≡ Some x
get_at [] x ys = refl
get_at (z ∷ xs) x ys = get_at xs x ys

-- an edit with a reply is of an editor that is there
editor_of : (scene : Scene) (before : History) (e : ℕ) (file : FileKind) (line : Text) (reply : Reply) → (apply scene.grammar (newest scene before) (Step.Edit e file line)).reply ≡ Some reply → (editor : Editor) × (numbered scene.editors e ≡ Some editor)
unfolding apply
editor_of scene before zero file line reply r = absurd cc
editor_of scene before (suc e) file line reply r = go (slice_get scene.editors e) refl
  where
    stay : (newest scene before).editors ≡ scene.editors
    stay = editors_stay scene before

    go : (o : Option Editor) → slice_get scene.editors e ≡ o → (editor : Editor) × (slice_get scene.editors e ≡ Some editor)
    go (Some editor) is = (editor, is)
    go None is =
        let none : slice_get (newest scene before).editors e ≡ None = rw stay is in
        let unfit_ : option_map_or (λ editor. edit_step scene.grammar (newest scene before) e file line editor (unwrap_or (slice_get (newest scene before).cursors e) None)) (slice_get (newest scene before).editors e) (unfit (newest scene before)) ≡ unfit (newest scene before) = rw none refl in
        let no : None ≡ Some reply = sym (ap (λ a. a.reply) unfit_) ∙ r in
        absurd cc

next_line : (scene : Scene) (run : Run) (h : StepsHavePlaces scene run) (before : History) (step : Step) (reply : Reply) (rest : History) → run.steps ≡ before ++ (step, reply) ∷ rest → (apply scene.grammar (newest scene before) step).reply ≡ Some reply → IsNextLine scene before step
next_line scene run h before (Step.Learn d entry) reply rest e r = tt
next_line scene run h before (Step.Make d name) reply rest e r = tt
next_line scene run h before (Step.Fail d) reply rest e r = tt
next_line scene run h before (Step.Ask d retry line) reply rest e r = tt
next_line scene run h before (Step.Answer serial code) reply rest e r = tt
next_line scene run h before Step.Attach reply rest e r = tt
next_line scene run h before Step.Detach reply rest e r = tt
next_line scene run h before (Step.End t) reply rest e r = tt
next_line scene run h before (Step.Edit by file line) reply rest e r =
    let editor = editor_of scene before by file line reply r in
    let lines : lines_of_editor by before ++ (file, line) ∷ lines_of_editor by rest ≡ editor.0.lines = sym (lines_cut by before file line reply rest) ∙ ap (lines_of_editor by) (sym e) ∙ h.edits by editor.0 editor.1 in
    (editor.0, editor.1, ap (λ xs. slice_get xs (length (lines_of_editor by before))) (sym lines) ∙ get_at (lines_of_editor by before) (file, line) (lines_of_editor by rest))

pub placed_of : (scene : Scene) (run : Run) → StepsHavePlaces scene run → AllAfter (IsPlaced scene run) [] run.steps
unfolding after
placed_of scene run h =
    of_splits (IsPlaced scene run) run.steps [] (λ before pair rest e.
    let reply : RepliesAt scene before pair = at_split (RepliesAt scene) before pair rest [] (subst (AllAfter (RepliesAt scene) []) e (replies_at scene run.steps [] h.replies)) in
    let number : step_at run.steps (suc (length before)) ≡ Some pair.0 = ap (λ hs. step_at hs (suc (length before))) e ∙ step_here before pair rest in
    record {
      own = h.own (suc (length before)) ∙ ap times_owned number;
      next = next_line scene run h before pair.0 pair.1 rest e reply;
      reply = reply;
    })

-- ---- from each step to the clause

no_times : (run : Run) (number : ℕ) (own : List ℕ) → AllByRecursion (λ n. IsSome (step_at run.steps n)) own → step_at run.steps number ≡ None → times number own ≡ 0
no_times run number [] h e = refl
no_times run number (n ∷ own) h e = go (n == number) refl (no_times run number own h.1 e)
  where
    go : (b : Bool) → (n == number) ≡ b → times number own ≡ 0 → (if b then suc (times number own) else times number own) ≡ 0
    go true is more = absurd (let there : is_some (step_at run.steps number) ≡ true = subst (λ m. is_some (step_at run.steps m) ≡ true) (eqb-true n number is) h.0 in let no : is_some (step_at run.steps number) ≡ false = rw e refl in cc)
    go false is more = more

pub placed_places : (scene : Scene) (run : Run) → OwnAreSteps run → AllAfter (IsPlaced scene run) [] run.steps → NoLineMissing scene run.steps → StepsHavePlaces scene run
unfolding after
placed_places scene run inside placed lines =
    record {
      own = λ number. by_step number (step_at run.steps number) refl;
      edits = lines;
      replies = at_replies scene run.steps [] (of_splits (RepliesAt scene) run.steps [] (λ before pair rest e. (at_split (IsPlaced scene run) before pair rest [] (subst (AllAfter (IsPlaced scene run) []) e placed)).reply));
    }
  where
    by_step : (number : ℕ) (o : Option Step) → step_at run.steps number ≡ o → times number (own_numbers run.takes) ≡ times_owned (step_at run.steps number)
    by_step number None e = no_times run number (own_numbers run.takes) inside e ∙ ap times_owned (sym e)
    by_step zero (Some step) e = absurd cc
    by_step (suc version) (Some step) e =
        let c = cut_at run.steps version step e in
        let p = at_split (IsPlaced scene run) c.before (step, c.reply) c.rest [] (subst (AllAfter (IsPlaced scene run) []) c.cut placed) in
        ap (λ n. times (suc n) (own_numbers run.takes)) (sym c.number) ∙ p.own ∙ ap times_owned (sym e)
