-- Every legal run of a scene that was read can be written.
use Rattle.std.proofs.Common.{◌≡◌, ℕ, zero, suc, true, ◌&&◌, List, [], ◌∷◌, length, Ok, refl, sym, ap, subst, ◌∙◌}
use Rattle.std.specs.Prelude.{Some, slice_get}
use Rattle.std.specs.List.{AllByRecursion, list_all}
use Rattle.std.proofs.lemmas.Bool.{and_parts}
use Rattle.tm_word.specs.Prelude.{Text}
use Rattle.tm_rules.specs.Prelude.{Grammar, is_domain_name, numbered}
use Rattle.tm_domain.specs.Names.{is_path}
use Rattle.tm_trace.specs.Entries.{is_entry}
use Rattle.tm_rules.specs.Types.{Editor, FileKind, Reply, Run, Step, Take, Turn}
use Rattle.tm_script.specs.Written.{is_who, is_editor}
use Rattle.tm_script.specs.Written.{is_line as is_script_line}
use Rattle.tm_legal.specs.Prelude.{Legal, Plays, Scene, lines_of_editor, opening_of}
use Rattle.tm_legal.proofs.PlayLaws.{every_play_is_legal}
use Rattle.tm_line.proofs.Steps.{all}
use Rattle.tm_run.specs.RunText.{run_text}
use Rattle.tm_run.specs.Reading.{run_of}
use Rattle.tm_run.specs.Written.{is_plain, is_wide, is_line, is_right, is_reply_of, is_step, is_audit, is_take, is_written}
use Rattle.tm_run.specs.Typed.{has_numbers, replies_number, is_typed_step, is_typed_take, is_typed}
use Rattle.tm_run.proofs.ReadLaws.{run_again}
use Rattle.tm_run_laws.specs.Scenes.{IsReadScene}
use Rattle.tm_run_laws.proofs.Lists.{at-place, from-places}
use Rattle.tm_run_laws.proofs.Asks.{ask_line}
use Rattle.tm_run_laws.proofs.Audits.{takes_audit}
use Rattle.tm_run_laws.proofs.Replied.{reply_kind, learns_written, makes_right, edits_of, RepliedAt, replied-at, among-lines}

-- ---- what the types give

record Typed (run : Run) : Type 0 where
  count : is_wide (length run.steps) ≡ true
  steps : list_all is_typed_step run.steps ≡ true
  takes_count : is_wide (length run.takes) ≡ true
  takes : list_all is_typed_take run.takes ≡ true

typed_parts : (run : Run) → is_typed run ≡ true → Typed run
unfolding is_typed
typed_parts run h =
    let a = and_parts (is_wide (length run.steps) && list_all is_typed_step run.steps && is_wide (length run.takes)) (list_all is_typed_take run.takes) h in
    let b = and_parts (is_wide (length run.steps) && list_all is_typed_step run.steps) (is_wide (length run.takes)) a.0 in
    let c = and_parts (is_wide (length run.steps)) (list_all is_typed_step run.steps) b.0 in
    record { count = c.0; steps = c.1; takes_count = b.1; takes = a.1 }

-- ---- an edit's line

same_line : (text : Text) → is_script_line text ≡ true → is_line text ≡ true
unfolding is_script_line is_line
same_line text h = h

lines_of : (editor : Editor) → is_editor editor ≡ true → list_all (λ (edit : FileKind × Text). is_script_line edit.1) editor.lines ≡ true
unfolding is_editor
lines_of editor h = (and_parts (is_who editor) (list_all (λ (edit : FileKind × Text). is_script_line edit.1) editor.lines) h).1

editor_at : (editors : List Editor) (e : ℕ) (editor : Editor) → list_all is_editor editors ≡ true → numbered editors e ≡ Some editor → is_editor editor ≡ true
editor_at editors zero editor h at = absurd cc
editor_at editors (suc e) editor h at = at-place is_editor editors e editor h at

-- ---- each step

module _ (scene : Scene) (run : Run) (read : IsReadScene scene) (legal : Legal scene run) where
  edit_line_is : (k e : ℕ) (file : FileKind) (line : Text) (r : Reply) → slice_get run.steps k ≡ Some (Step.Edit e file line, r) → RepliedAt scene.grammar scene.editors (Step.Edit e file line, r) → is_line line ≡ true
  edit_line_is k e file line r at replied =
      let by = edits_of scene.grammar replied.state e file line r replied.replied in
      let there : numbered scene.editors e ≡ Some by.0 = ap (λ (editors : List Editor). numbered editors e) (sym replied.same) ∙ by.1 in
      let lines : list_all (λ (edit : FileKind × Text). is_script_line edit.1) (lines_of_editor e run.steps) ≡ true =
      ap (list_all (λ (edit : FileKind × Text). is_script_line edit.1)) (legal.places.edits e by.0 there) ∙ lines_of by.0 (editor_at scene.editors e by.0 read.editors there) in
      same_line line (among-lines (λ (edit : FileKind × Text). is_script_line edit.1) e file line r run.steps k at lines)

  right_at : (k : ℕ) (step : Step) (r : Reply) → slice_get run.steps k ≡ Some (step, r) → RepliedAt scene.grammar scene.editors (step, r) → has_numbers step ≡ true → is_right step ≡ true
  right_at k (Step.Learn d entry) r at replied n =
      all (is_plain d) (is_entry entry) n (subst (λ (g : Grammar). g.can_write entry ≡ true) read.grammar (learns_written scene.grammar replied.state d entry r replied.replied))
  right_at k (Step.Make d name) r at replied n =
      all (is_plain d) (is_domain_name is_path name) n (subst (λ (g : Grammar). is_domain_name g.is_path name ≡ true) read.grammar (makes_right scene.grammar replied.state d name r replied.replied))
  right_at k (Step.Fail d) r at replied n = n
  right_at k (Step.Ask d retry line) r at replied n = all (is_plain d && is_plain retry) (is_line line) n (ask_line scene run k d retry line r read legal at)
  right_at k (Step.Answer serial code) r at replied n = n
  right_at k Step.Attach r at replied n = refl
  right_at k Step.Detach r at replied n = refl
  right_at k (Step.Edit e file line) r at replied n = all (is_plain e) (is_line line) n (edit_line_is k e file line r at replied)
  right_at k (Step.End tree) r at replied n = n

  step_at_is : (k : ℕ) (pair : Step × Reply) → list_all is_typed_step run.steps ≡ true → slice_get run.steps k ≡ Some pair → is_step pair ≡ true
  step_at_is k pair typed at =
      let replied = replied-at scene.grammar (opening_of scene) run.steps k pair legal.places.replies at in
      let n = and_parts (has_numbers pair.0) (replies_number pair.1) (at-place is_typed_step run.steps k pair typed at) in
      all (is_right pair.0) (is_reply_of pair.0 pair.1) (right_at k pair.0 pair.1 at replied n.0) (reply_kind scene.grammar replied.state pair.0 pair.1 replied.replied n.1)

-- ---- each take

takes_are : (takes : List Take) → list_all is_typed_take takes ≡ true → AllByRecursion (λ (t : Take). is_audit t.audit ≡ true) takes → list_all is_take takes ≡ true
takes_are [] h k = refl
takes_are (t ∷ takes) h k =
    let p = and_parts (is_typed_take t) (list_all is_typed_take takes) h in
    all (is_take t) (list_all is_take takes) (all (is_typed_take t) (is_audit t.audit) p.0 k.0) (takes_are takes p.1 k.1)

-- ---- the run

pub legal_written : (scene : Scene) (run : Run) → IsReadScene scene → Legal scene run → is_typed run ≡ true → is_written run ≡ true
unfolding is_written
legal_written scene run read legal typed =
    let t = typed_parts run typed in
    let steps = from-places is_step run.steps (λ k pair at. step_at_is scene run read legal k pair t.steps at) in
    let takes = takes_are run.takes t.takes (takes_audit scene run read legal) in
    all _ _ (all _ _ (all _ _ t.count steps) t.takes_count) takes

pub legal_read : (scene : Scene) (run : Run) → IsReadScene scene → Legal scene run → is_typed run ≡ true → run_of (run_text run) ≡ Ok run
legal_read scene run read legal typed = run_again run (legal_written scene run read legal typed)

-- a run that a text is read as is the only one
same_run : (run other : Run) → run_of (run_text run) ≡ Ok run → run_of (run_text other) ≡ Ok other → run_text run ≡ run_text other → run ≡ other
same_run run other h k e =
    let both : run_of (run_text run) ≡ Ok other = ap run_of e ∙ k in
    let one : Ok run ≡ Ok other = sym h ∙ both in
    cc

pub legal_alone : (scene other_scene : Scene) (run other : Run) → IsReadScene scene → IsReadScene other_scene → Legal scene run → Legal other_scene other → is_typed run ≡ true → is_typed other ≡ true → run_text run ≡ run_text other → run ≡ other
legal_alone scene other_scene run other read other_read legal other_legal typed other_typed e =
    same_run run other (legal_read scene run read legal typed) (legal_read other_scene other other_read other_legal other_typed) e

pub play_written : (scene : Scene) (schedule : List Turn) (run : Run) → IsReadScene scene → Plays scene schedule run → is_typed run ≡ true → is_written run ≡ true
play_written scene schedule run read plays typed = legal_written scene run read (every_play_is_legal scene schedule run read.can_play plays) typed

pub play_read : (scene : Scene) (schedule : List Turn) (run : Run) → IsReadScene scene → Plays scene schedule run → is_typed run ≡ true → run_of (run_text run) ≡ Ok run
play_read scene schedule run read plays typed = legal_read scene run read (every_play_is_legal scene schedule run read.can_play plays) typed
