-- What the tests of the supervisor's steps compute is what may be done, and the least step at fault.
use Rattle.std.proofs.Common.{◌≡◌, ◌<◌, ◌==◌, ℕ, suc, ◌+◌, Bool, true, false, ◌&&◌, not, List, [], ◌∷◌, length, take, Option, Some, None, refl, sym, ap, ◌∙◌, subst, arith, inl, inr, ◌⊎◌, eqb-true}
use Rattle.std.specs.Prelude.{if◌then◌else◌, MatchOption, is_some}
use Rattle.std.specs.Option.{option_or, IfSome}
use Rattle.std.specs.List.{AllByRecursion}
use Rattle.std.proofs.lemmas.Bool.{ltb-true, lt-ltb}
use Rattle.tm_word.specs.Prelude.{is_empty}
use Rattle.tm_rules.specs.Types.{Book, Query, Reply, Run, Step, Take}
use Rattle.tm_rules.specs.Prelude.{book_answer, code_of, first_query}
use Rattle.tm_legal.specs.Prelude.{History, Scene, SupervisorActs, is_answer, is_attach, is_detach, is_end, is_of_supervisor, newest, places, seen_by_tree}
use Rattle.tm_verify_laws.specs.First.{AllAfter, FirstFailsAfter, first_failing_after}
use Rattle.tm_verify_laws.specs.Desk.{HasSome, IsThere, AllEnded, MayAct, IsAllowed, IsComplete, NeedsNoSupervisor, DeskHolds, DeskFails, has_some, is_there, trees_ended, has_room, is_stop, is_answered_so, may_leave, is_above, may_act, is_complete, desk_fault, EndsAreOfTrees}
use Rattle.tm_verify_laws.proofs.FirstLaws.{some_is, scan_all, scan_none, scan_fails, fails_scan, fails_front, after_all, after_none, after_fails, fails_after, after_front}
use Rattle.tm_verify_laws.proofs.Splits.{not_false, not_true}
use Rattle.tm_verify_laws.proofs.DeskLaws.{both, all, either, right_of, tree_ended, trees_all, below_all, all_below, stop_is, is_stop_of, none_is}
use Rattle.tm_verify_laws.proofs.DeskBack.{answered_so, some_there, with_book, none_acts, acts_none}

-- ---- some of the steps passes, or none does

some_long : (ns : List ℕ) → not (is_empty ns) ≡ true → 0 < length ns
some_long [] e = absurd cc
some_long (n ∷ ns) e = omega arith

long_some : (ns : List ℕ) → 0 < length ns → not (is_empty ns) ≡ true
long_some [] h = absurd (omega (arith, h))
long_some (n ∷ ns) h = refl

has : (test : Step → Bool) (before : History) → has_some test before ≡ true → HasSome test before
has test before e = some_long (places test before) e

is_had : (test : Step → Bool) (before : History) → HasSome test before → has_some test before ≡ true
is_had test before h = long_some (places test before) h

lacks : (test : Step → Bool) (before : History) → not (has_some test before) ≡ true → ¬ HasSome test before
lacks test before e h = let some = is_had test before h in let none = not_false (has_some test before) e in absurd cc

is_lacking : (test : Step → Bool) (before : History) → ¬ HasSome test before → not (has_some test before) ≡ true
is_lacking test before without = go (has_some test before) refl
  where
    go : (b : Bool) → has_some test before ≡ b → not (has_some test before) ≡ true
    go true is = absurd (without (has test before is))
    go false is = not_true (has_some test before) is

there : (before : History) → is_there before ≡ true → IsThere before
there before e = let t = both (has_some is_attach before) _ e in record { came = has is_attach before t.0; stays = lacks is_detach before t.1 }

is_there_so : (before : History) → IsThere before → is_there before ≡ true
is_there_so before h = all (has_some is_attach before) (not (has_some is_detach before)) (is_had is_attach before h.came) (is_lacking is_detach before h.stays)

-- ---- trees

all_ended : (scene : Scene) (before : History) → trees_ended 1 scene.trace before ≡ true → AllEnded scene before
all_ended scene before e t tree at = has (is_end t) before (tree_ended t scene.trace tree before at e)

is_ended : (scene : Scene) (before : History) → AllEnded scene before → trees_ended 1 scene.trace before ≡ true
is_ended scene before h =
    trees_all 1 scene.trace before
    (λ k tree at. subst (λ n. has_some (is_end n) before ≡ true) (let same : suc k ≡ 1 + k = omega arith in same) (is_had (is_end (suc k)) before (h (suc k) tree at)))

-- ---- the book

room_is : (o : Option ℕ) (n : ℕ) → has_room o n ≡ true → IfSome o (λ stop. n < stop)
room_is None n e = tt
room_is (Some stop) n e = ltb-true n stop e

is_room : (o : Option ℕ) (n : ℕ) → IfSome o (λ stop. n < stop) → has_room o n ≡ true
is_room None n h = refl
is_room (Some stop) n h = lt-ltb n stop h

answer_is : (book : Book) (o : Option Query) (serial code : ℕ) → is_answered_so book o serial code ≡ true → (query : Query) × (o ≡ Some query) × (query.serial ≡ serial) × (code_of (book_answer book query) ≡ code)
answer_is book None serial code e = absurd cc
answer_is book (Some query) serial code e =
    let t = both (query.serial == serial) _ e in
    (query, refl, eqb-true query.serial serial t.0, eqb-true (code_of (book_answer book query)) code t.1)

module _ (scene : Scene) (run : Run) (book : Book) (before : History) where
  abbrev answers : ℕ
  answers = length (places is_answer before)

  abbrev asked : Option Query
  asked = first_query (newest scene before).queries

  leaves : may_leave scene book before ≡ true → (book.stop ≡ Some answers) ⊎ (AllEnded scene before × (asked ≡ None))
  leaves e = by_reason (either (is_stop book.stop answers) _ e)
    where
      by_reason : (is_stop book.stop answers ≡ true) ⊎ ((trees_ended 1 scene.trace before && not (is_some asked)) ≡ true) → (book.stop ≡ Some answers) ⊎ (AllEnded scene before × (asked ≡ None))
      by_reason (inl stop) = inl (stop_is book.stop answers stop)
      by_reason (inr over) = let t = both (trees_ended 1 scene.trace before) _ over in inr (all_ended scene before t.0, none_is asked t.1)

  is_leaving : (book.stop ≡ Some answers) ⊎ (AllEnded scene before × (asked ≡ None)) → may_leave scene book before ≡ true
  is_leaving (inl stop) = rw (is_stop_of book.stop answers stop) refl
  is_leaving (inr over) = right_of (is_stop book.stop answers) _ (all (trees_ended 1 scene.trace before) (not (is_some asked)) (is_ended scene before over.0) (not_true (is_some asked) (some_there asked over.1)))

  -- ---- one step

  pub may : (step : Step) → may_act scene run book before step ≡ true → MayAct scene run book before step
  unfolding may_act
  may (Step.Learn d entry) m = tt
  may (Step.Make d name) m = tt
  may (Step.Fail d) m = tt
  may (Step.Ask d retry line) m = tt
  may (Step.Edit by file line) m = tt
  may Step.Attach m = lacks is_attach before m
  may (Step.Answer serial code) m =
      let t = both (is_there before) _ m in
      let u = both (has_room book.stop answers) _ t.1 in
      record { there = there before t.0; room = room_is book.stop answers u.0; by_book = answer_is book asked serial code u.1 }
  may Step.Detach m = let t = both (is_there before) _ m in record { there = there before t.0; due = leaves t.1 }
  may (Step.End t) m =
      let u = both (not (has_some (is_end t) before)) _ m in
      record { once = lacks (is_end t) before u.0; above = below_all (suc (length before)) (seen_by_tree scene run t) u.1 }

  pub is_may : (step : Step) → MayAct scene run book before step → may_act scene run book before step ≡ true
  unfolding may_act
  is_may (Step.Learn d entry) h = refl
  is_may (Step.Make d name) h = refl
  is_may (Step.Fail d) h = refl
  is_may (Step.Ask d retry line) h = refl
  is_may (Step.Edit by file line) h = refl
  is_may Step.Attach h = is_lacking is_attach before h
  is_may (Step.Answer serial code) h =
      all (is_there before) _ (is_there_so before h.there)
      (all (has_room book.stop answers) _ (is_room book.stop answers h.room)
      (answered_so book asked h.by_book.0 serial code h.by_book.1 h.by_book.2 h.by_book.3))
  is_may Step.Detach h = all (is_there before) (may_leave scene book before) (is_there_so before h.there) (is_leaving h.due)
  is_may (Step.End t) h =
      all (not (has_some (is_end t) before)) (is_above scene run t (suc (length before))) (is_lacking (is_end t) before h.once)
      (all_below (suc (length before)) (seen_by_tree scene run t) h.above)

-- ---- nothing is missing

complete : (scene : Scene) (history : History) → is_complete scene history ≡ true → IsComplete scene history
complete scene history e =
    let t = both (has_some is_attach history) _ e in
    let u = both (has_some is_detach history) _ t.1 in
    record { came = has is_attach history t.0; left = has is_detach history u.0; ended = all_ended scene history u.1 }

is_completed : (scene : Scene) (history : History) → IsComplete scene history → is_complete scene history ≡ true
is_completed scene history h =
    all (has_some is_attach history) _ (is_had is_attach history h.came)
    (all (has_some is_detach history) (trees_ended 1 scene.trace history) (is_had is_detach history h.left) (is_ended scene history h.ended))

-- ---- all steps

-- the test of one step
abbrev acts_so : Scene → Run → Book → History → Step × Reply → Bool
acts_so scene run book before pair = may_act scene run book before pair.0

abbrev needs_nobody : Step × Reply → Bool
needs_nobody pair = not (is_of_supervisor pair.0)

nobody : (pair : Step × Reply) → needs_nobody pair ≡ true → NeedsNoSupervisor pair
nobody pair e = not_false (is_of_supervisor pair.0) e

is_nobody : (pair : Step × Reply) → NeedsNoSupervisor pair → needs_nobody pair ≡ true
is_nobody pair e = not_true (is_of_supervisor pair.0) e

allowed : (scene : Scene) (run : Run) (book : Book) (before : History) (pair : Step × Reply) → acts_so scene run book before pair ≡ true → IsAllowed scene run book before pair
allowed scene run book before pair e = may scene run book before pair.0 e

is_allowed : (scene : Scene) (run : Run) (book : Book) (before : History) (pair : Step × Reply) → IsAllowed scene run book before pair → acts_so scene run book before pair ≡ true
is_allowed scene run book before pair h = is_may scene run book before pair.0 h

or_none : (o : Option ℕ) (b : Bool) → option_or o (if b then None else Some 0) ≡ None → (o ≡ None) × (b ≡ true)
or_none None true e = (refl, refl)
or_none None false e = absurd cc
or_none (Some k) b e = absurd cc

or_some : (o : Option ℕ) (b : Bool) (k : ℕ) → option_or o (if b then None else Some 0) ≡ Some k → (o ≡ Some k) ⊎ ((k ≡ 0) × (o ≡ None) × (b ≡ false))
or_some None true k e = absurd cc
or_some None false k e = inr (sym (some_is 0 k e), refl, refl)
or_some (Some n) b k e = inl e

is_not : (b : Bool) → ¬ (b ≡ true) → b ≡ false
is_not true fails = absurd (fails refl)
is_not false fails = refl

-- no step is at fault

none_holds_by : (scene : Scene) (o : Option Book) (run : Run) → desk_fault (with_book scene o) run ≡ None → DeskHolds (with_book scene o) run
unfolding desk_fault
none_holds_by scene None run e = scan_all NeedsNoSupervisor needs_nobody nobody 1 run.steps e
none_holds_by scene (Some book) run e =
    let own : Scene = with_book scene (Some book) in
    let t = or_none (first_failing_after (acts_so own run book) [] run.steps) (is_complete own run.steps) e in
    (after_all (IsAllowed own run book) (acts_so own run book) (allowed own run book) [] run.steps t.0, complete own run.steps t.1)

pub none_holds : (scene : Scene) (run : Run) → desk_fault scene run ≡ None → DeskHolds scene run
none_holds scene run e = none_holds_by scene scene.book run e

holds_none_by : (scene : Scene) (o : Option Book) (run : Run) → DeskHolds (with_book scene o) run → desk_fault (with_book scene o) run ≡ None
unfolding desk_fault
holds_none_by scene None run h = scan_none NeedsNoSupervisor needs_nobody is_nobody 1 run.steps h
holds_none_by scene (Some book) run h =
    let own : Scene = with_book scene (Some book) in
    rw (
      after_none (IsAllowed own run book) (acts_so own run book) (is_allowed own run book) [] run.steps h.0,
      is_completed own run.steps h.1,
    ) refl

pub holds_none : (scene : Scene) (run : Run) → DeskHolds scene run → desk_fault scene run ≡ None
holds_none scene run h = holds_none_by scene scene.book run h

-- the least step at fault

fault_fails_by : (scene : Scene) (o : Option Book) (run : Run) (k : ℕ) → desk_fault (with_book scene o) run ≡ Some k → DeskFails (with_book scene o) run k
unfolding desk_fault
fault_fails_by scene None run k e = scan_fails NeedsNoSupervisor needs_nobody nobody is_nobody 1 run.steps k e
fault_fails_by scene (Some book) run k e =
    let own : Scene = with_book scene (Some book) in
    by_place own (or_some (first_failing_after (acts_so own run book) [] run.steps) (is_complete own run.steps) k e)
  where
    by_place : (own : Scene) → (first_failing_after (acts_so own run book) [] run.steps ≡ Some k) ⊎ ((k ≡ 0) × (first_failing_after (acts_so own run book) [] run.steps ≡ None) × (is_complete own run.steps ≡ false))
        → FirstFailsAfter (IsAllowed own run book) [] run.steps k ⊎ ((k ≡ 0) × AllAfter (IsAllowed own run book) [] run.steps × ¬ IsComplete own run.steps)
    by_place own (inl found) = inl (after_fails (IsAllowed own run book) (acts_so own run book) (allowed own run book) (is_allowed own run book) [] run.steps k found)
    by_place own (inr (zero_is, none, lacking)) =
        inr (
          zero_is,
          after_all (IsAllowed own run book) (acts_so own run book) (allowed own run book) [] run.steps none,
          λ h. let yes = is_completed own run.steps h in absurd cc,
        )

pub fault_fails : (scene : Scene) (run : Run) (k : ℕ) → desk_fault scene run ≡ Some k → DeskFails scene run k
fault_fails scene run k e = fault_fails_by scene scene.book run k e

fails_fault_by : (scene : Scene) (o : Option Book) (run : Run) (k : ℕ) → DeskFails (with_book scene o) run k → desk_fault (with_book scene o) run ≡ Some k
unfolding desk_fault
fails_fault_by scene None run k f = fails_scan NeedsNoSupervisor needs_nobody nobody is_nobody 1 run.steps k f
fails_fault_by scene (Some book) run k (inl f) =
    let own : Scene = with_book scene (Some book) in
    rw (fails_after (IsAllowed own run book) (acts_so own run book) (allowed own run book) (is_allowed own run book) [] run.steps k f) refl
fails_fault_by scene (Some book) run k (inr missing) =
    let own : Scene = with_book scene (Some book) in
    rw (
      after_none (IsAllowed own run book) (acts_so own run book) (is_allowed own run book) [] run.steps missing.1,
      is_not (is_complete own run.steps) (λ yes. missing.2 (complete own run.steps yes)),
    ) (ap Some (sym missing.0))

pub fails_fault : (scene : Scene) (run : Run) (k : ℕ) → DeskFails scene run k → desk_fault scene run ≡ Some k
fails_fault scene run k f = fails_fault_by scene scene.book run k f

-- what is computed is one of the two
pub fault_found : (scene : Scene) (run : Run) (o : Option ℕ) → o ≡ desk_fault scene run → MatchOption o (DeskHolds scene run) (DeskFails scene run)
fault_found scene run None e = none_holds scene run (sym e)
fault_found scene run (Some k) e = fault_fails scene run k (sym e)

-- ---- a run that begins in the same way

abbrev with_takes : Run → List Take → Run
with_takes run takes = record run { takes = takes }

seen_same : (scene : Scene) (run other : Run) (t : ℕ) → run.takes ≡ other.takes → seen_by_tree scene run t ≡ seen_by_tree scene other t
seen_same scene run other t e = ap (λ takes. seen_by_tree scene (with_takes run takes) t) e

act_same : (scene : Scene) (run other : Run) (book : Book) (before : History) (step : Step) → run.takes ≡ other.takes → MayAct scene run book before step → MayAct scene other book before step
act_same scene run other book before (Step.Learn d entry) e h = tt
act_same scene run other book before (Step.Make d name) e h = tt
act_same scene run other book before (Step.Fail d) e h = tt
act_same scene run other book before (Step.Ask d retry line) e h = tt
act_same scene run other book before (Step.Edit by file line) e h = tt
act_same scene run other book before Step.Attach e h = h
act_same scene run other book before (Step.Answer serial code) e h = h
act_same scene run other book before Step.Detach e h = h
act_same scene run other book before (Step.End t) e h =
    record { once = h.once; above = subst (AllByRecursion (λ version. version < suc (length before))) (seen_same scene run other t e) h.above }

fails_same_by : (scene : Scene) (o : Option Book) (run other : Run) (k : ℕ) → run.takes ≡ other.takes → take (suc k) run.steps ≡ take (suc k) other.steps → DeskFails (with_book scene o) run (suc k) → DeskFails (with_book scene o) other (suc k)
fails_same_by scene None run other k e same f = fails_front NeedsNoSupervisor 1 (suc k) run.steps other.steps (suc k) (omega arith) same f
fails_same_by scene (Some book) run other k e same (inl f) =
    let own : Scene = with_book scene (Some book) in
    inl
    (after_front (IsAllowed own run book) (IsAllowed own other book)
    (λ before pair h. act_same own run other book before pair.0 e h) (λ before pair h. act_same own other run book before pair.0 (sym e) h)
    (suc k) [] run.steps other.steps (suc k) (omega arith) same f)
fails_same_by scene (Some book) run other k e same (inr missing) = absurd (let none = missing.0 in omega (arith, none))

-- fails at the same step
pub fails_same : (scene : Scene) (run other : Run) (k : ℕ) → run.takes ≡ other.takes → take (suc k) run.steps ≡ take (suc k) other.steps → DeskFails scene run (suc k) → DeskFails scene other (suc k)
fails_same scene run other k e same f = fails_same_by scene scene.book run other k e same f

-- ---- the clause

-- no step is at fault exactly where the clause holds
pub hold_acts : (scene : Scene) (run : Run) → EndsAreOfTrees scene run.steps → DeskHolds scene run → SupervisorActs scene run
hold_acts scene run trees h = none_acts scene run trees (holds_none scene run h)

pub acts_hold : (scene : Scene) (run : Run) → EndsAreOfTrees scene run.steps → SupervisorActs scene run → DeskHolds scene run
acts_hold scene run trees h = none_holds scene run (acts_none scene run trees h)

-- one is at fault only where not all hold
pub desk_not_both : (scene : Scene) (run : Run) (k : ℕ) → DeskFails scene run k → DeskHolds scene run → ⊥
desk_not_both scene run k f h = let found = fails_fault scene run k f in let none = holds_none scene run h in absurd cc

-- there is one least
pub desk_once : (scene : Scene) (run : Run) (k m : ℕ) → DeskFails scene run k → DeskFails scene run m → k ≡ m
desk_once scene run k m f g = some_is k m (sym (fails_fault scene run k f) ∙ fails_fault scene run m g)

-- and it stays one, whatever follows
pub fault_stays : (scene : Scene) (run other : Run) (k : ℕ) → DeskFails scene run (suc k) → run.takes ≡ other.takes → take (suc k) run.steps ≡ take (suc k) other.steps → EndsAreOfTrees scene other.steps → SupervisorActs scene other → ⊥
fault_stays scene run other k f e same trees h = desk_not_both scene other (suc k) (fails_same scene run other k e same f) (acts_hold scene other trees h)
