-- Where the clause of the supervisor holds, each step leaves it within reach and nothing is
-- missing; and the least step is found.
use Rattle.std.proofs.Common.{◌≡◌, ◌≤◌, ◌<◌, ℕ, suc, ◌+◌, ◌==◌, Bool, true, false, not, List, [], ◌∷◌, ◌++◌, length, Option, Some, None, refl, sym, ap, ◌∙◌, subst, arith, inl, inr, eq-eqb}
use Rattle.std.specs.Prelude.{if◌then◌else◌, is_some}
use Rattle.std.specs.Option.{option_or, IfSome}
use Rattle.std.specs.List.{AllByRecursion}
use Rattle.std.proofs.lemmas.Bool.{lt-ltb}
use Rattle.tm_rules.specs.Types.{Book, Query, Reply, Run, Step}
use Rattle.tm_rules.specs.Prelude.{book_answer, code_of, first_query, numbered}
use Rattle.tm_legal.specs.Prelude.{DetachIsDue, History, Scene, Supervised, SupervisorActs, TreesEnd, is_answer, is_attach, is_detach, is_end, is_of_supervisor, is_some_end, newest, places, places_from, seen_by_tree, step_at}
use Rattle.tm_verify_laws.specs.First.{first_failing, AllAfter, first_failing_after}
use Rattle.tm_verify_laws.specs.Desk.{has_some, is_there, trees_ended, has_room, is_stop, is_answered_so, may_leave, is_above, may_act, is_complete, desk_fault, EndsAreOfTrees}
use Rattle.tm_verify_laws.proofs.FirstLaws.{after_all, after_none, of_splits}
use Rattle.tm_verify_laws.proofs.Splits.{not_true, Only, only, is_before, is_later, all_before, place_at, count_below, step_here}
use Rattle.tm_verify_laws.proofs.DeskLaws.{all, right_of, end_some, trees_all, some_tree, all_below, place_cut, state_before, is_stop_of, supervised}

some_of : (test : Step → Bool) (before : History) (a : ℕ) → places test before ≡ a ∷ [] → has_some test before ≡ true
some_of test before a e = rw e refl

none_of : (test : Step → Bool) (before : History) → places test before ≡ [] → has_some test before ≡ false
none_of test before e = rw e refl

pub answered_so : (book : Book) (o : Option Query) (query : Query) (serial code : ℕ) → o ≡ Some query → query.serial ≡ serial → code_of (book_answer book query) ≡ code → is_answered_so book o serial code ≡ true
answered_so book o query serial code e s c = rw e (all (query.serial == serial) (code_of (book_answer book query) == code) (eq-eqb query.serial serial s) (eq-eqb (code_of (book_answer book query)) code c))

pub some_there : (o : Option Query) → o ≡ None → is_some o ≡ false
some_there o e = rw e refl

module _ (scene : Scene) (run : Run) (book : Book) (trees : EndsAreOfTrees scene run.steps) (sup : Supervised scene run.steps book) (ends : TreesEnd scene run) where
  room : (o : Option ℕ) (n : ℕ) → IfSome o (λ stop. length (places is_answer run.steps) ≤ stop) → n < length (places is_answer run.steps) → has_room o n ≡ true
  room None n enough lt = refl
  room (Some stop) n enough lt = lt-ltb n stop (omega (arith, enough, lt))

  answer_may : (before : History) (serial code : ℕ) (reply : Reply) (rest : History) → run.steps ≡ before ++ (Step.Answer serial code, reply) ∷ rest → may_act scene run book before (Step.Answer serial code) ≡ true
  unfolding may_act
  answer_may before serial code reply rest e =
      let between = place_at (λ n. (sup.attach < n) × (n < sup.detach)) is_answer before (Step.Answer serial code, reply) rest refl (subst (λ h. AllByRecursion (λ n. (sup.attach < n) × (n < sup.detach)) (places is_answer h)) e sup.answers_between) in
      let came = some_of is_attach before sup.attach (is_before is_attach before (Step.Answer serial code, reply) rest sup.attach refl (ap (places is_attach) (sym e) ∙ sup.attached_once) between.0) in
      let stays = none_of is_detach before (is_later is_detach before (Step.Answer serial code, reply) rest sup.detach refl (ap (places is_detach) (sym e) ∙ sup.detached_once) between.1) in
      let fewer : length (places is_answer before) < length (places is_answer run.steps) = subst (λ h. length (places is_answer before) < length (places is_answer h)) (sym e) (count_below is_answer before (Step.Answer serial code, reply) rest refl) in
      let number : step_at run.steps (suc (length before)) ≡ Some (Step.Answer serial code) = ap (λ h. step_at h (suc (length before))) e ∙ step_here before (Step.Answer serial code, reply) rest in
      let fact = sup.by_book (length before) serial code number in
      let same = state_before scene run.steps before (Step.Answer serial code, reply) rest e in
      let query : first_query (newest scene before).queries ≡ Some fact.0 = ap (λ s. first_query s.queries) (sym same) ∙ fact.1 in
      all (is_there before) _ (all (has_some is_attach before) (not (has_some is_detach before)) came (not_true (has_some is_detach before) stays))
      (all (has_room book.stop (length (places is_answer before))) _ (room book.stop (length (places is_answer before)) sup.answers_enough fewer)
      (answered_so book (first_query (newest scene before).queries) fact.0 serial code query fact.2 fact.3))

  below_detach : (ns : List ℕ) (n : ℕ) → sup.detach ≡ n → AllByRecursion (λ k. (sup.attach < k) × (k < sup.detach)) ns → AllByRecursion (λ k. k < n) ns
  below_detach [] n e h = tt
  below_detach (k ∷ ns) n e h = (let lt = h.0.1 in omega (arith, e, lt), below_detach ns n e h.1)

  -- an End that stands below a number
  end_lower : (t end n : ℕ) → AllByRecursion (λ k. k < n) (places is_some_end run.steps) → places (is_end t) run.steps ≡ end ∷ [] → end < n
  end_lower t end n below one =
      let c = place_cut (is_end t) 1 run.steps end [] one in
      let lt = place_at (λ k. k < n) is_some_end c.before c.pair c.rest (end_some t c.pair.0 c.passes) (subst (λ h. AllByRecursion (λ k. k < n) (places is_some_end h)) c.cut below) in
      let same = c.number in
      omega (arith, lt, same)

  detach_may : (before : History) (reply : Reply) (rest : History) → run.steps ≡ before ++ (Step.Detach, reply) ∷ rest → may_act scene run book before Step.Detach ≡ true
  unfolding may_act
  detach_may before reply rest e =
      all (is_there before) (may_leave scene book before) (all (has_some is_attach before) (not (has_some is_detach before)) came (not_true (has_some is_detach before) (none_of is_detach before o.none_before))) (leaves sup.due)
    where
      o : Only is_detach before rest sup.detach
      o = only is_detach before (Step.Detach, reply) rest sup.detach refl (ap (places is_detach) (sym e) ∙ sup.detached_once)

      earlier : sup.attach < suc (length before)
      earlier = let at = o.here in let lt = sup.attached_first in omega (arith, at, lt)

      came : has_some is_attach before ≡ true
      came = some_of is_attach before sup.attach (is_before is_attach before (Step.Detach, reply) rest sup.attach refl (ap (places is_attach) (sym e) ∙ sup.attached_once) earlier)

      leaves : DetachIsDue scene run.steps book sup.detach → may_leave scene book before ≡ true
      leaves (inl stop) =
          let same : places is_answer run.steps ≡ places is_answer before =
          ap (places is_answer) e ∙ all_before is_answer before (Step.Detach, reply) rest refl (subst (λ h. AllByRecursion (λ k. k < suc (length before)) (places is_answer h)) e (below_detach (places is_answer run.steps) (suc (length before)) o.here sup.answers_between)) in
          let reached : is_stop book.stop (length (places is_answer before)) ≡ true = is_stop_of book.stop (length (places is_answer before)) (stop ∙ ap (λ ns. Some (length ns)) same) in
          rw reached refl
      leaves (inr (below, none)) =
          let state = state_before scene run.steps before (Step.Detach, reply) rest e in
          let unasked : first_query (newest scene before).queries ≡ None = ap (λ s. first_query s.queries) (sym state) ∙ none (length before) (sym o.here) in
          let ended : trees_ended 1 scene.trace before ≡ true =
          trees_all 1 scene.trace before (λ k tree at.
          let one = ends (suc k) tree at in
          let lt = end_lower (suc k) one.0 sup.detach below one.1 in
          let lower : one.0 < suc (length before) = (let here = o.here in omega (arith, here, lt)) in
          subst (λ n. has_some (is_end n) before ≡ true) (let same : suc k ≡ 1 + k = omega arith in same)
          (some_of (is_end (suc k)) before one.0 (is_before (is_end (suc k)) before (Step.Detach, reply) rest one.0 refl (ap (places (is_end (suc k))) (sym e) ∙ one.1) lower))) in
          right_of (is_stop book.stop (length (places is_answer before))) _ (all (trees_ended 1 scene.trace before) _ ended (not_true (is_some (first_query (newest scene before).queries)) (some_there (first_query (newest scene before).queries) unasked)))

  end_may : (before : History) (t : ℕ) (reply : Reply) (rest : History) → run.steps ≡ before ++ (Step.End t, reply) ∷ rest → may_act scene run book before (Step.End t) ≡ true
  unfolding may_act
  end_may before t reply rest e =
      let number : step_at run.steps (suc (length before)) ≡ Some (Step.End t) = ap (λ h. step_at h (suc (length before))) e ∙ step_here before (Step.End t, reply) rest in
      let tree = some_tree (numbered scene.trace t) (trees t (suc (length before)) number) in
      let one = ends t tree.0 tree.1 in
      let o = only (is_end t) before (Step.End t, reply) rest one.0 (eq-eqb t t refl) (ap (places (is_end t)) (sym e) ∙ one.1) in
      all (not (has_some (is_end t) before)) (is_above scene run t (suc (length before))) (not_true (has_some (is_end t) before) (none_of (is_end t) before o.none_before))
      (all_below (suc (length before)) (seen_by_tree scene run t) (subst (λ n. AllByRecursion (λ version. version < n) (seen_by_tree scene run t)) o.here one.2))

  attach_may : (before : History) (reply : Reply) (rest : History) → run.steps ≡ before ++ (Step.Attach, reply) ∷ rest → may_act scene run book before Step.Attach ≡ true
  unfolding may_act
  attach_may before reply rest e =
      let o = only is_attach before (Step.Attach, reply) rest sup.attach refl (ap (places is_attach) (sym e) ∙ sup.attached_once) in
      not_true (has_some is_attach before) (none_of is_attach before o.none_before)

  may_here : (before : History) (step : Step) (reply : Reply) (rest : History) → run.steps ≡ before ++ (step, reply) ∷ rest → may_act scene run book before step ≡ true
  unfolding may_act
  may_here before (Step.Learn d entry) reply rest e = refl
  may_here before (Step.Make d name) reply rest e = refl
  may_here before (Step.Fail d) reply rest e = refl
  may_here before (Step.Ask d retry line) reply rest e = refl
  may_here before (Step.Edit by file line) reply rest e = refl
  may_here before (Step.Answer serial code) reply rest e = answer_may before serial code reply rest e
  may_here before Step.Attach reply rest e = attach_may before reply rest e
  may_here before Step.Detach reply rest e = detach_may before reply rest e
  may_here before (Step.End t) reply rest e = end_may before t reply rest e

  pub acts : AllAfter (λ before (pair : Step × Reply). may_act scene run book before pair.0 ≡ true) [] run.steps
  acts = of_splits (λ before (pair : Step × Reply). may_act scene run book before pair.0 ≡ true) run.steps [] (λ before pair rest e. may_here before pair.0 pair.1 rest e)

  pub complete : is_complete scene run.steps ≡ true
  complete =
      all (has_some is_attach run.steps) _ (some_of is_attach run.steps sup.attach sup.attached_once)
      (all (has_some is_detach run.steps) (trees_ended 1 scene.trace run.steps) (some_of is_detach run.steps sup.detach sup.detached_once)
      (trees_all 1 scene.trace run.steps (λ k tree at.
      let one = ends (suc k) tree at in
      subst (λ n. has_some (is_end n) run.steps ≡ true) (let same : suc k ≡ 1 + k = omega arith in same) (some_of (is_end (suc k)) run.steps one.0 one.1))))

-- ---- without a book

no_places : (test : Step → Bool) (n : ℕ) (history : History) → first_failing (λ (pair : Step × Reply). not (test pair.0)) n history ≡ None → places_from n test history ≡ []
no_places test n [] e = refl
no_places test n (pair ∷ history) e = by_test (test pair.0) e (no_places test (suc n) history)
  where
    by_test : (t : Bool) → (if not t then first_failing (λ (p : Step × Reply). not (test p.0)) (suc n) history else Some n) ≡ None → (first_failing (λ (p : Step × Reply). not (test p.0)) (suc n) history ≡ None → places_from (suc n) test history ≡ []) → (if t then n ∷ places_from (suc n) test history else places_from (suc n) test history) ≡ []
    by_test true f more = absurd cc
    by_test false f more = more f

none_failing : (test : Step → Bool) (n : ℕ) (history : History) → places_from n test history ≡ [] → first_failing (λ (pair : Step × Reply). not (test pair.0)) n history ≡ None
none_failing test n [] e = refl
none_failing test n (pair ∷ history) e = by_test (test pair.0) e (none_failing test (suc n) history)
  where
    by_test : (t : Bool) → (if t then n ∷ places_from (suc n) test history else places_from (suc n) test history) ≡ [] → (places_from (suc n) test history ≡ [] → first_failing (λ (p : Step × Reply). not (test p.0)) (suc n) history ≡ None) → (if not t then first_failing (λ (p : Step × Reply). not (test p.0)) (suc n) history else Some n) ≡ None
    by_test true f more = absurd cc
    by_test false f more = more f

-- ---- both

or_none : (o p : Option ℕ) → option_or o p ≡ None → (o ≡ None) × (p ≡ None)
or_none None p e = (refl, e)
or_none (Some k) p e = absurd cc

whole : (b : Bool) (k : ℕ) → (if b then None else Some k) ≡ None → b ≡ true
whole true k e = refl
whole false k e = absurd cc

abbrev pub with_book : Scene → Option Book → Scene
with_book scene o = record scene { book = o }

none_acts_by : (scene : Scene) (o : Option Book) (run : Run) → EndsAreOfTrees (with_book scene o) run.steps → desk_fault (with_book scene o) run ≡ None → SupervisorActs (with_book scene o) run
unfolding desk_fault
none_acts_by scene None run trees e = no_places is_of_supervisor 1 run.steps e
none_acts_by scene (Some book) run trees e =
    let own : Scene = with_book scene (Some book) in
    let t = or_none (first_failing_after (λ before (pair : Step × Reply). may_act own run book before pair.0) [] run.steps) (if is_complete own run.steps then None else Some 0) e in
    supervised own run book trees
    (after_all (λ before (pair : Step × Reply). may_act own run book before pair.0 ≡ true) (λ before (pair : Step × Reply). may_act own run book before pair.0) (λ before pair h. h) [] run.steps t.0)
    (whole (is_complete own run.steps) 0 t.1)

-- where no step is at fault, the clause holds
pub none_acts : (scene : Scene) (run : Run) → EndsAreOfTrees scene run.steps → desk_fault scene run ≡ None → SupervisorActs scene run
none_acts scene run trees e = none_acts_by scene scene.book run trees e

acts_none_by : (scene : Scene) (o : Option Book) (run : Run) → EndsAreOfTrees (with_book scene o) run.steps → SupervisorActs (with_book scene o) run → desk_fault (with_book scene o) run ≡ None
unfolding desk_fault
acts_none_by scene None run trees h = none_failing is_of_supervisor 1 run.steps h
acts_none_by scene (Some book) run trees h =
    let own : Scene = with_book scene (Some book) in
    rw (
      after_none (λ before (pair : Step × Reply). may_act own run book before pair.0 ≡ true) (λ before (pair : Step × Reply). may_act own run book before pair.0) (λ before pair k. k) [] run.steps (acts own run book trees h.0 h.1),
      complete own run book trees h.0 h.1,
    ) refl

-- where the clause holds, no step is at fault
pub acts_none : (scene : Scene) (run : Run) → EndsAreOfTrees scene run.steps → SupervisorActs scene run → desk_fault scene run ≡ None
acts_none scene run trees h = acts_none_by scene scene.book run trees h
