-- A joint run is legal: each clause from what the activities know and what the passes have counted.
use Rattle.std.proofs.Common.{◌≡◌, ◌≤◌, ◌<◌, ℕ, zero, suc, List, [], ◌∷◌, ◌++◌, true, true≢false, refl, sym, ap, ◌∙◌, subst, arith, inl, inr, ◌⊎◌}
use Rattle.std.specs.Prelude.{Option, Some, None, flat_map, is_some, IfSome}
use Rattle.std.specs.List.{AllByRecursion}
use Rattle.tm_rules.specs.Types.{Book, Look, Made, Run, Step, Take, Tree}
use Rattle.tm_legal.specs.Prelude.{Case, IsLegalTake, Legal, NoLookBeforeAttach, Scene, StepsHavePlaces, Supervised, SupervisorActs, TreesEnd, at_start, cases_from, is_end, is_of_supervisor, is_some_end, own_numbers, places, seen, times, times_owned, tree_cases}
use Rattle.tm_legal.proofs.Asked.{All-append}
use Rattle.tm_legal.proofs.Walks.{All-map}
use Rattle.tm_legal.proofs.Legality.{legal-of, Below, seen-below}
use Rattle.tm_made.specs.Made.{history_made, made_step}
use Rattle.tm_joint.specs.Played.{Row, seen_by, RowHolds, AnswersFrom, DeskActs}
use Rattle.tm_joint.specs.Joint.{takes_in, Joint, JointRunsAreLegal, AttachedFirst}
use Rattle.tm_joint.proofs.Counting.{covered}
use Rattle.tm_made.proofs.Telling.{step_at-made}
use Rattle.tm_joint.proofs.NumberKinds.{OfKind, kinds-all, kind-places, is_some_edit, is_edit_of, is_of_desk, Dealt, own-once, end-once, desk-once, end-is-some, edit-is-some}
use Rattle.tm_joint.proofs.Lines.{editors-kind, edits-in-order}
use Rattle.tm_joint.proofs.Rows.{All-left, All-right, ends_in, dealt-rows, rows-cases, rows-pids, rows-own, rows-ends, rows-lone, takes-cases}
use Rattle.tm_joint.proofs.Supervising.{end-unique, end-places, supervised, comes-at}

-- Kinds

answers-of-desk : (scene : Scene) (list : List Made) (book : Book) (last : ℕ) (ns : List ℕ) → AnswersFrom scene list book last ns → OfKind is_of_desk list ns
answers-of-desk scene list book last [] from = tt
answers-of-desk scene list book last (p ∷ ns) from = ((_, from.0.answer, refl), answers-of-desk scene list book p ns from.1)

desk-kind : (scene : Scene) (list : List Made) (o : Option Book) (desk : List ℕ) → DeskActs scene list o desk → OfKind is_of_desk list desk
desk-kind scene list None desk h = subst (OfKind is_of_desk list) (sym h) tt
desk-kind scene list (Some book) desk h =
    let last : OfKind is_of_desk list (h.detach ∷ []) = ((Step.Detach, h.detach_is, refl), tt) in
    let all : OfKind is_of_desk list (h.attach ∷ h.answers ++ h.detach ∷ []) = (
      (Step.Attach, h.attach_is, refl),
      All-append (λ n. (step : Step) × (made_step list n ≡ Some step) × (is_of_desk step ≡ true)) h.answers (h.detach ∷ []) (answers-of-desk scene list book h.attach h.answers h.each) last,
    ) in
    subst (OfKind is_of_desk list) (sym h.numbers_are) all

-- a step that only a supervisor lets be made is its own or an end
desk-or-end : (step : Step) → is_of_supervisor step ≡ true → (is_of_desk step ≡ true) ⊎ (is_some_end step ≡ true)
desk-or-end Step.Attach h = inl refl
desk-or-end Step.Detach h = inl refl
desk-or-end (Step.Answer serial code) h = inl refl
desk-or-end (Step.End t) h = inr refl
desk-or-end (Step.Learn d entry) h = absurd (true≢false (sym h))
desk-or-end (Step.Make d name) h = absurd (true≢false (sym h))
desk-or-end (Step.Fail d) h = absurd (true≢false (sym h))
desk-or-end (Step.Ask d retry line) h = absurd (true≢false (sym h))
desk-or-end (Step.Edit e file line) h = absurd (true≢false (sym h))

-- What a tree has seen

takes-below : (Q : Type 0) (end : ℕ) (takes : List Take) → (Q → AllByRecursion (λ version. version < end) (seen_by takes)) → AllByRecursion (λ (k : Take). Q → AllByRecursion (λ version. version < end) (flat_map seen k.looks)) takes
takes-below Q end [] h = tt
takes-below Q end (k ∷ takes) h =
    ((λ q. All-left (λ version. version < end) (flat_map seen k.looks) (seen_by takes) (h q)), takes-below Q end takes (λ q. All-right (λ version. version < end) (flat_map seen k.looks) (seen_by takes) (h q)))

module _ (scene : Scene) (list : List Made) (run : Run) (j : Joint scene list run) where
  -- each number of the list is some activity's, once
  pub dealt : Dealt list (own_numbers (takes_in j.rows)) (flat_map (λ (ns : List ℕ). ns) (ends_in j.rows)) (flat_map (λ (ns : List ℕ). ns) j.editors) j.desk
  dealt =
      record {
        own_kind = rows-own scene list 1 scene.trace j.rows j.each_row;
        ends_kind = kinds-all is_end is_some_end list 1 (ends_in j.rows) end-is-some (rows-ends scene list 1 scene.trace j.rows j.each_row);
        edits_kind = kinds-all is_edit_of is_some_edit list 1 j.editors edit-is-some (editors-kind list 1 scene.editors j.editors j.each_editor);
        desk_kind = desk-kind scene list scene.book j.desk j.desk_did;
        sum = λ n.
            let all = covered j.who list j.passes j.claims j.closed n in
            let parts = j.dealt n in
            let rows = dealt-rows n j.rows in
            omega arith;
      }

  -- the takes of all lines are legal
  each-take : AllByRecursion (IsLegalTake scene (history_made scene list)) (cases_from 1 scene.policy scene.trace (takes_in j.rows))
  each-take = rows-cases scene list (IsLegalTake scene (history_made scene list)) (λ t tree row held. held.played.cases) 1 scene.trace j.rows j.each_row

  abbrev as_played : Run
  as_played = record { steps = history_made scene list; takes = takes_in j.rows }

  -- The supervisor

  alone : scene.book ≡ None → j.desk ≡ [] → places is_of_supervisor (history_made scene list) ≡ []
  alone none idle = kind-places scene is_of_supervisor list [] tt tt (λ k step at is. go k step at (desk-or-end step is))
    where
      go : (k : ℕ) (step : Step) → made_step list k ≡ Some step → (is_of_desk step ≡ true) ⊎ (is_some_end step ≡ true) → 0 < times k []
      go k step at (inl is) =
          let once : times k j.desk ≡ 1 = desk-once list (own_numbers (takes_in j.rows)) (flat_map (λ (ns : List ℕ). ns) (ends_in j.rows)) (flat_map (λ (ns : List ℕ). ns) j.editors) j.desk dealt k step at is in
          let zero_ : times k j.desk ≡ 0 = ap (times k) idle in
          absurd (omega arith)
      go k step at (inr is) =
          let once : times k (flat_map (λ (ns : List ℕ). ns) (ends_in j.rows)) ≡ 1 = end-once list (own_numbers (takes_in j.rows)) (flat_map (λ (ns : List ℕ). ns) (ends_in j.rows)) (flat_map (λ (ns : List ℕ). ns) j.editors) j.desk dealt k step at is in
          let zero_ : times k (flat_map (λ (ns : List ℕ). ns) (ends_in j.rows)) ≡ 0 = ap (times k) (rows-lone scene list 1 scene.trace j.rows j.each_row (ap is_some none)) in
          absurd (omega arith)

  trees-end : is_some scene.book ≡ true → TreesEnd scene as_played
  trees-end has zero tree there = absurd cc
  trees-end has (suc n) tree there =
      let (end, is, once) = end-places scene list j.rows j.each_row (flat_map (λ (ns : List ℕ). ns) j.editors) j.desk dealt has n tree there in
      (end, once, seen-below (suc n) end (cases_from 1 scene.policy scene.trace (takes_in j.rows)) (rows-cases scene list (Below (suc n) end) (row-below end is) 1 scene.trace j.rows j.each_row))
    where
      row-below : (end : ℕ) → made_step list end ≡ Some (Step.End (suc n)) → (t : ℕ) (tree_ : Tree) (row : Row) → RowHolds scene list t tree_ row → AllByRecursion (Below (suc n) end) (tree_cases t (at_start scene.policy tree_) tree_.records row.takes)
      row-below end is t tree_ row held =
          All-map (λ (c : Case). (c.tree ≡ t) × (t ≡ suc n → AllByRecursion (λ version. version < end) (flat_map seen c.taken.looks))) (Below (suc n) end) (tree_cases t (at_start scene.policy tree_) tree_.records row.takes)
          (λ c both same. both.1 (sym both.0 ∙ same))
          (takes-cases (λ (k : Take). t ≡ suc n → AllByRecursion (λ version. version < end) (flat_map seen k.looks)) t (at_start scene.policy tree_) tree_.records row.takes
          (takes-below (t ≡ suc n) end row.takes (λ same. below same row.end (held.ended ∙ has) held.end_is held.above)))
        where
          below : t ≡ suc n → (o : Option ℕ) → is_some o ≡ true → IfSome o (λ e. made_step list e ≡ Some (Step.End t)) → IfSome o (λ e. AllByRecursion (λ version. version < e) (seen_by row.takes)) → AllByRecursion (λ version. version < end) (seen_by row.takes)
          below same None some ends above = absurd (true≢false (sym some))
          below same (Some e) some ends above =
              let other : made_step list e ≡ Some (Step.End (suc n)) = ends ∙ ap (λ k. Some (Step.End k)) same in
              let equal : e ≡ end = end-unique scene list j.rows j.each_row (flat_map (λ (ns : List ℕ). ns) j.editors) j.desk dealt (suc n) e end other is in
              subst (λ k. AllByRecursion (λ version. version < k) (seen_by row.takes)) equal above

  acts : SupervisorActs scene as_played
  acts = by_book scene.book refl j.desk_did
    where
      by_book : (o : Option Book) → scene.book ≡ o → DeskActs scene list o j.desk → SupervisorActs scene as_played
      by_book None is did = subst (λ (o : Option Book). SupervisorActs (record scene { book = o }) as_played) (sym is) (alone is did)
      by_book (Some book) is did =
          let has : is_some scene.book ≡ true = ap is_some is in
          let all : Supervised scene (history_made scene list) book = supervised scene list j.rows j.each_row (flat_map (λ (ns : List ℕ). ns) j.editors) j.desk dealt book did has in
          let ends : TreesEnd scene as_played = trees-end has in
          let other : Supervised (record scene { book = Some book }) (history_made scene list) book = record {
            attach = all.attach;
            detach = all.detach;
            attached_once = all.attached_once;
            detached_once = all.detached_once;
            attached_first = all.attached_first;
            answers_between = all.answers_between;
            answers_enough = all.answers_enough;
            by_book = all.by_book;
            due = all.due;
          } in
          subst (λ (o : Option Book). SupervisorActs (record scene { book = o }) as_played) (sym is) (other, ends)

  -- All clauses

  each-place : StepsHavePlaces scene as_played
  each-place =
      record {
        own = λ n.
            own-once list (own_numbers (takes_in j.rows)) (flat_map (λ (ns : List ℕ). ns) (ends_in j.rows)) (flat_map (λ (ns : List ℕ). ns) j.editors) j.desk dealt n
            ∙ ap times_owned (sym (step_at-made scene list n));
        edits = edits-in-order scene list (own_numbers (takes_in j.rows)) (flat_map (λ (ns : List ℕ). ns) (ends_in j.rows)) j.editors j.desk dealt j.each_editor;
        replies = j.fitted;
      }

  legal : Legal scene as_played
  legal = legal-of scene as_played (rows-pids scene list 1 scene.trace j.rows j.each_row) each-take each-place acts

-- every joint run is legal
pub joint-legal : JointRunsAreLegal
joint-legal scene list run j = subst (Legal scene) (sym j.run_is) (legal scene list run j)

-- no look is older than the supervisor's coming, where each has seen it
pub attached-first : AttachedFirst
attached-first scene list run attach j came told = subst (λ (r : Run). AllByRecursion (λ (t : Take). AllByRecursion (λ (look : Look). attach ≤ look.version) t.looks) r.takes → NoLookBeforeAttach r) (sym j.run_is) first told
  where
    same : (o : Option Book) → scene.book ≡ o → DeskActs scene list o j.desk → (k : ℕ) → made_step list k ≡ Some Step.Attach → attach ≡ k
    same None is idle k at =
        let once : times k j.desk ≡ 1 = desk-once list (own_numbers (takes_in j.rows)) (flat_map (λ (ns : List ℕ). ns) (ends_in j.rows)) (flat_map (λ (ns : List ℕ). ns) j.editors) j.desk (dealt scene list run j) k Step.Attach at refl in
        let zero_ : times k j.desk ≡ 0 = ap (times k) idle in
        absurd (omega arith)
    same (Some book) is did k at =
        sym (comes-at scene list j.rows j.each_row (flat_map (λ (ns : List ℕ). ns) j.editors) j.desk (dealt scene list run j) book did attach came)
        ∙ comes-at scene list j.rows j.each_row (flat_map (λ (ns : List ℕ). ns) j.editors) j.desk (dealt scene list run j) book did k at

    first : AllByRecursion (λ (t : Take). AllByRecursion (λ (look : Look). attach ≤ look.version) t.looks) (takes_in j.rows) → NoLookBeforeAttach (let r : Run = record { steps = history_made scene list; takes = takes_in j.rows } in r)
    first seen_ k at = subst (λ n. AllByRecursion (λ (t : Take). AllByRecursion (λ (look : Look). n ≤ look.version) t.looks) (takes_in j.rows)) (same scene.book refl j.desk_did k (sym (step_at-made scene list k) ∙ at)) seen_
