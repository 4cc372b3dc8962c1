-- There are joint runs: a supervisor comes and leaves, and between the two a tree without requests
-- ends and an editor writes its line.
use Rattle.std.proofs.Common.{◌≡◌, ◌+◌, ℕ, zero, suc, List, [], ◌∷◌, Bool, true, false, refl, ap, ◌∙◌, arith, inr}
use Rattle.std.specs.Prelude.{Option, Some, None, if◌then◌else◌, slice_get, unwrap_or, is_some, not}
use Rattle.std.specs.Option.{option_map_or}
use Rattle.tm_word.specs.Prelude.{Text}
use Rattle.tm_rules.specs.Types.{Book, BookRule, EditReply, Editor, FileKind, Made, Maker, Policy, Reply, Run, Step, Tree}
use Rattle.tm_rules.specs.Prelude.{Grammar, attach, detach, first_query, is_manager}
use Rattle.tm_legal.specs.Prelude.{Applied, Scene, State, after, apply, edit_step, opening_of, times, tree_cases, unfit}
use Rattle.tm_legal.proofs.Laws.{times-append}
use Rattle.tm_made.specs.Made.{start_in, told_from, history_made, EachFits}
use Rattle.tm_made.proofs.Telling.{each-fitted}
use Rattle.tm_joint.specs.Played.{Row, RowHolds, AllWasDone, DeskDid}
use Rattle.tm_joint.specs.Joint.{Joint}

module _ (g : Grammar) (policy : Policy) (rules : List BookRule) (tree : Tree) (quiet : tree.records ≡ []) (editor : Editor) (file : FileKind) (line : Text) (has : editor.lines ≡ (file, line) ∷ []) where
  abbrev book : Book
  book = record { rules = rules; stop = None }

  abbrev scene : Scene
  scene = record { grammar = g; policy = policy; trace = tree ∷ []; editors = editor ∷ []; book = Some book }

  abbrev list : List Made
  list =
      record { maker = Maker.Desk; step = Step.Attach }
      ∷ record { maker = Maker.Tree 1; step = Step.End 1 }
      ∷ record { maker = Maker.Editor 1; step = Step.Edit 1 file line }
      ∷ record { maker = Maker.Desk; step = Step.Detach } ∷ []

  abbrev run : Run
  run = record { steps = history_made scene list; takes = [] }

  who : Maker → Option ℕ
  who (Maker.Process pid) = Some 0
  who (Maker.Tree t) = Some 0
  who (Maker.Editor e) = Some 1
  who Maker.Desk = Some 2

  edit-replied : (s : State) → s.editors ≡ editor ∷ [] → is_some (apply g s (Step.Edit 1 file line)).reply ≡ true
  unfolding apply edit_step
  edit-replied s is = by_editor (slice_get s.editors 0) (ap (λ (es : List Editor). slice_get es 0) is)
    where
      by_manager : (b : Bool) (done : Applied) → is_some done.reply ≡ true → is_some (if b then (let a : Applied = record { state = s; reply = Some (Reply.Edit EditReply.NotManager) } in a) else done).reply ≡ true
      by_manager true done replied = refl
      by_manager false done replied = replied

      by_editor : (o : Option Editor) → o ≡ Some editor → is_some (option_map_or (λ (e : Editor). edit_step g s 0 file line e (unwrap_or (slice_get s.cursors 0) None)) o (unfit s)).reply ≡ true
      by_editor None e = absurd cc
      by_editor (Some other) e = by_manager (not (is_manager s.policy other)) _ refl

  each : EachFits g (start_in scene) list
  unfolding after apply attach detach
  each zero made at = let same : record { maker = Maker.Desk; step = Step.Attach } ≡ made = cc in rw (← same) refl
  each (suc zero) made at = let same : record { maker = Maker.Tree 1; step = Step.End 1 } ≡ made = cc in rw (← same) refl
  each (suc (suc zero)) made at =
      let same : record { maker = Maker.Editor 1; step = Step.Edit 1 file line } ≡ made = cc in
      rw (← same) (edit-replied (apply g (apply g (opening_of scene) Step.Attach).state (Step.End 1)).state refl)
  each (suc (suc (suc zero))) made at = let same : record { maker = Maker.Desk; step = Step.Detach } ≡ made = cc in rw (← same) refl
  each (suc (suc (suc (suc k)))) made at = absurd cc

  done-first : AllWasDone scene list 1 4
  unfolding told_from after apply attach first_query
  done-first = record { version = 2; since = omega arith; before = omega arith; none = refl; ended = refl }

  desk-did : DeskDid scene list book (1 ∷ 4 ∷ [])
  desk-did =
      record {
        attach = 1;
        answers = [];
        detach = 4;
        numbers_are = refl;
        rising = (omega arith, (omega arith, tt));
        attach_is = refl;
        detach_is = refl;
        each = tt;
        due = inr done-first;
        few = tt;
      }

  abbrev row : Row
  row = record { takes = []; end = Some 2 }

  row-holds : RowHolds scene list 1 tree row
  unfolding tree_cases
  row-holds = record { played = record { pids = rw quiet refl; cases = rw quiet tt }; ended = refl; end_is = refl; above = tt }

  -- it is joint
  pub an-example : Joint scene list run
  unfolding who
  an-example =
      record {
        fitted = each-fitted scene list each;
        rows = row ∷ [];
        editors = (3 ∷ []) ∷ [];
        desk = 1 ∷ 4 ∷ [];
        each_row = (row-holds, tt);
        each_editor = (((omega arith, tt), rw has refl), tt);
        desk_did = desk-did;
        who = who;
        passes = (2 ∷ []) ∷ (3 ∷ []) ∷ (1 ∷ 4 ∷ []) ∷ [];
        claims = (
          ((omega arith, tt), ((record { maker = Maker.Tree 1; step = Step.End 1 }, refl, refl), tt)),
          (
            ((omega arith, tt), ((record { maker = Maker.Editor 1; step = Step.Edit 1 file line }, refl, refl), tt)),
            (((omega arith, (omega arith, tt)), ((record { maker = Maker.Desk; step = Step.Attach }, refl, refl), ((record { maker = Maker.Desk; step = Step.Detach }, refl, refl), tt))), tt),
          ),
        );
        closed = refl;
        dealt = λ n. times-append n (2 ∷ []) (3 ∷ 1 ∷ 4 ∷ []) ∙ ap (λ k. times n (2 ∷ []) + k) (times-append n (3 ∷ []) (1 ∷ 4 ∷ [])) ∙ omega arith;
        run_is = refl;
      }
