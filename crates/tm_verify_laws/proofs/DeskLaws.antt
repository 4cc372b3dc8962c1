-- The supervisor's clause holds exactly where each of its steps leaves it within reach and nothing
-- is missing.
use Rattle.std.proofs.Common.{◌≡◌, ◌≤◌, ◌<◌, ℕ, zero, suc, ◌+◌, ◌==◌, nat_lt, Bool, true, false, ◌&&◌, ◌||◌, not, List, [], ◌∷◌, ◌++◌, length, Option, Some, None, refl, sym, ap, ◌∙◌, subst, arith, inl, inr, ◌⊎◌, eq-eqb, eqb-true}
use Rattle.std.specs.Prelude.{if◌then◌else◌, IsSome, is_some, slice_get}
use Rattle.std.specs.Option.{IfSome}
use Rattle.std.specs.List.{AllByRecursion, list_all}
use Rattle.std.proofs.lemmas.Bool.{ltb-true, lt-ltb}
use Rattle.tm_rules.specs.Prelude.{Trace, book_answer, code_of, first_query, numbered}
use Rattle.tm_rules.specs.Types.{Book, Query, Reply, Run, Step, Tree}
use Rattle.tm_legal.specs.Prelude.{AnswersByBook, DetachIsDue, History, Scene, Supervised, TreesEnd, is_answer, is_attach, is_detach, is_end, is_some_end, newest, places, places_from, seen_by_tree, state_at, step_at}
use Rattle.tm_legal.proofs.Laws.{state_at-later}
use Rattle.tm_legal.proofs.Histories.{state_at-newest}
use Rattle.tm_verify_laws.specs.First.{AllAfter}
use Rattle.tm_verify_laws.specs.Desk.{has_some, is_there, trees_ended, has_room, is_stop, is_answered_so, may_leave, is_above, may_act, is_complete, EndsAreOfTrees}
use Rattle.tm_verify_laws.proofs.FirstLaws.{at_split, of_splits}
use Rattle.tm_verify_laws.proofs.Splits.{not_false, only, stands_before, stands_later, all_before, all_places, OnlyFirst, single, counted, step_here, cut_at}

pub both : (a b : Bool) → (a && b) ≡ true → (a ≡ true) × (b ≡ true)
both true b e = (refl, e)
both false b e = absurd cc

pub all : (a b : Bool) → a ≡ true → b ≡ true → (a && b) ≡ true
all a b h k = rw (h, k) refl

pub either : (a b : Bool) → (a || b) ≡ true → (a ≡ true) ⊎ (b ≡ true)
either true b e = inl refl
either false b e = inr e

pub right_of : (a b : Bool) → b ≡ true → (a || b) ≡ true
right_of true b h = refl
right_of false b h = h

map_after : {A : Type 0} (P Q : List A → A → Type 0) → ((before : List A) (x : A) → P before x → Q before x) → (before xs : List A) → AllAfter P before xs → AllAfter Q before xs
map_after P Q f before [] all_ = tt
map_after P Q f before (x ∷ xs) all_ = (f before x all_.0, map_after P Q f (before ++ x ∷ []) xs all_.1)

-- ---- kinds of steps

detach_no_attach : (step : Step) → is_detach step ≡ true → is_attach step ≡ false
detach_no_attach (Step.Learn d entry) e = absurd cc
detach_no_attach (Step.Make d name) e = absurd cc
detach_no_attach (Step.Fail d) e = absurd cc
detach_no_attach (Step.Ask d retry line) e = absurd cc
detach_no_attach (Step.Answer serial code) e = absurd cc
detach_no_attach Step.Attach e = absurd cc
detach_no_attach Step.Detach e = refl
detach_no_attach (Step.Edit by file line) e = absurd cc
detach_no_attach (Step.End tree) e = absurd cc

detach_no_answer : (step : Step) → is_detach step ≡ true → is_answer step ≡ false
detach_no_answer (Step.Learn d entry) e = absurd cc
detach_no_answer (Step.Make d name) e = absurd cc
detach_no_answer (Step.Fail d) e = absurd cc
detach_no_answer (Step.Ask d retry line) e = absurd cc
detach_no_answer (Step.Answer serial code) e = absurd cc
detach_no_answer Step.Attach e = absurd cc
detach_no_answer Step.Detach e = refl
detach_no_answer (Step.Edit by file line) e = absurd cc
detach_no_answer (Step.End tree) e = absurd cc

answer_no_attach : (step : Step) → is_answer step ≡ true → is_attach step ≡ false
answer_no_attach (Step.Learn d entry) e = absurd cc
answer_no_attach (Step.Make d name) e = absurd cc
answer_no_attach (Step.Fail d) e = absurd cc
answer_no_attach (Step.Ask d retry line) e = absurd cc
answer_no_attach (Step.Answer serial code) e = refl
answer_no_attach Step.Attach e = absurd cc
answer_no_attach Step.Detach e = absurd cc
answer_no_attach (Step.Edit by file line) e = absurd cc
answer_no_attach (Step.End tree) e = absurd cc

answer_no_detach : (step : Step) → is_answer step ≡ true → is_detach step ≡ false
answer_no_detach (Step.Learn d entry) e = absurd cc
answer_no_detach (Step.Make d name) e = absurd cc
answer_no_detach (Step.Fail d) e = absurd cc
answer_no_detach (Step.Ask d retry line) e = absurd cc
answer_no_detach (Step.Answer serial code) e = refl
answer_no_detach Step.Attach e = absurd cc
answer_no_detach Step.Detach e = absurd cc
answer_no_detach (Step.Edit by file line) e = absurd cc
answer_no_detach (Step.End tree) e = absurd cc

detach_no_end : (t : ℕ) (step : Step) → is_detach step ≡ true → is_end t step ≡ false
detach_no_end t (Step.Learn d entry) e = absurd cc
detach_no_end t (Step.Make d name) e = absurd cc
detach_no_end t (Step.Fail d) e = absurd cc
detach_no_end t (Step.Ask d retry line) e = absurd cc
detach_no_end t (Step.Answer serial code) e = absurd cc
detach_no_end t Step.Attach e = absurd cc
detach_no_end t Step.Detach e = refl
detach_no_end t (Step.Edit by file line) e = absurd cc
detach_no_end t (Step.End tree) e = absurd cc

pub end_some : (t : ℕ) (step : Step) → is_end t step ≡ true → is_some_end step ≡ true
end_some t (Step.Learn d entry) e = absurd cc
end_some t (Step.Make d name) e = absurd cc
end_some t (Step.Fail d) e = absurd cc
end_some t (Step.Ask d retry line) e = absurd cc
end_some t (Step.Answer serial code) e = absurd cc
end_some t Step.Attach e = absurd cc
end_some t Step.Detach e = absurd cc
end_some t (Step.Edit by file line) e = absurd cc
end_some t (Step.End tree) e = refl

-- the tree of an End

end_is : (step : Step) → is_some_end step ≡ true → (t : ℕ) × (step ≡ Step.End t)
end_is (Step.Learn d entry) e = absurd cc
end_is (Step.Make d name) e = absurd cc
end_is (Step.Fail d) e = absurd cc
end_is (Step.Ask d retry line) e = absurd cc
end_is (Step.Answer serial code) e = absurd cc
end_is Step.Attach e = absurd cc
end_is Step.Detach e = absurd cc
end_is (Step.Edit by file line) e = absurd cc
end_is (Step.End tree) e = (tree, refl)

-- ---- what each kind needs

module _ (scene : Scene) (run : Run) (book : Book) (before : History) where
  attach_first : (step : Step) → may_act scene run book before step ≡ true → is_attach step ≡ true → has_some is_attach before ≡ false
  unfolding may_act
  attach_first (Step.Learn d entry) m e = absurd cc
  attach_first (Step.Make d name) m e = absurd cc
  attach_first (Step.Fail d) m e = absurd cc
  attach_first (Step.Ask d retry line) m e = absurd cc
  attach_first (Step.Answer serial code) m e = absurd cc
  attach_first Step.Attach m e = not_false (has_some is_attach before) m
  attach_first Step.Detach m e = absurd cc
  attach_first (Step.Edit by file line) m e = absurd cc
  attach_first (Step.End tree) m e = absurd cc

  answer_there : (step : Step) → may_act scene run book before step ≡ true → is_answer step ≡ true → is_there before ≡ true
  unfolding may_act
  answer_there (Step.Learn d entry) m e = absurd cc
  answer_there (Step.Make d name) m e = absurd cc
  answer_there (Step.Fail d) m e = absurd cc
  answer_there (Step.Ask d retry line) m e = absurd cc
  answer_there (Step.Answer serial code) m e = (both (is_there before) _ m).0
  answer_there Step.Attach m e = absurd cc
  answer_there Step.Detach m e = absurd cc
  answer_there (Step.Edit by file line) m e = absurd cc
  answer_there (Step.End tree) m e = absurd cc

  answer_room : (step : Step) → may_act scene run book before step ≡ true → is_answer step ≡ true → has_room book.stop (length (places is_answer before)) ≡ true
  unfolding may_act
  answer_room (Step.Learn d entry) m e = absurd cc
  answer_room (Step.Make d name) m e = absurd cc
  answer_room (Step.Fail d) m e = absurd cc
  answer_room (Step.Ask d retry line) m e = absurd cc
  answer_room (Step.Answer serial code) m e = (both (has_room book.stop (length (places is_answer before))) _ (both (is_there before) _ m).1).0
  answer_room Step.Attach m e = absurd cc
  answer_room Step.Detach m e = absurd cc
  answer_room (Step.Edit by file line) m e = absurd cc
  answer_room (Step.End tree) m e = absurd cc

  detach_there : (step : Step) → may_act scene run book before step ≡ true → is_detach step ≡ true → is_there before ≡ true
  unfolding may_act
  detach_there (Step.Learn d entry) m e = absurd cc
  detach_there (Step.Make d name) m e = absurd cc
  detach_there (Step.Fail d) m e = absurd cc
  detach_there (Step.Ask d retry line) m e = absurd cc
  detach_there (Step.Answer serial code) m e = absurd cc
  detach_there Step.Attach m e = absurd cc
  detach_there Step.Detach m e = (both (is_there before) _ m).0
  detach_there (Step.Edit by file line) m e = absurd cc
  detach_there (Step.End tree) m e = absurd cc

  detach_due : (step : Step) → may_act scene run book before step ≡ true → is_detach step ≡ true → may_leave scene book before ≡ true
  unfolding may_act
  detach_due (Step.Learn d entry) m e = absurd cc
  detach_due (Step.Make d name) m e = absurd cc
  detach_due (Step.Fail d) m e = absurd cc
  detach_due (Step.Ask d retry line) m e = absurd cc
  detach_due (Step.Answer serial code) m e = absurd cc
  detach_due Step.Attach m e = absurd cc
  detach_due Step.Detach m e = (both (is_there before) _ m).1
  detach_due (Step.Edit by file line) m e = absurd cc
  detach_due (Step.End tree) m e = absurd cc

  answer_so : (serial code : ℕ) → may_act scene run book before (Step.Answer serial code) ≡ true → is_answered_so book (first_query (newest scene before).queries) serial code ≡ true
  unfolding may_act
  answer_so serial code m = (both (has_room book.stop (length (places is_answer before))) _ (both (is_there before) _ m).1).1

  end_first : (t : ℕ) (step : Step) → may_act scene run book before step ≡ true → is_end t step ≡ true → has_some (is_end t) before ≡ false
  unfolding may_act
  end_first t (Step.Learn d entry) m e = absurd cc
  end_first t (Step.Make d name) m e = absurd cc
  end_first t (Step.Fail d) m e = absurd cc
  end_first t (Step.Ask d retry line) m e = absurd cc
  end_first t (Step.Answer serial code) m e = absurd cc
  end_first t Step.Attach m e = absurd cc
  end_first t Step.Detach m e = absurd cc
  end_first t (Step.Edit by file line) m e = absurd cc
  end_first t (Step.End tree) m e = subst (λ u. has_some (is_end u) before ≡ false) (eqb-true tree t e) (not_false (has_some (is_end tree) before) (both (not (has_some (is_end tree) before)) _ m).0)

  end_above : (t : ℕ) (step : Step) → may_act scene run book before step ≡ true → is_end t step ≡ true → is_above scene run t (suc (length before)) ≡ true
  unfolding may_act
  end_above t (Step.Learn d entry) m e = absurd cc
  end_above t (Step.Make d name) m e = absurd cc
  end_above t (Step.Fail d) m e = absurd cc
  end_above t (Step.Ask d retry line) m e = absurd cc
  end_above t (Step.Answer serial code) m e = absurd cc
  end_above t Step.Attach m e = absurd cc
  end_above t Step.Detach m e = absurd cc
  end_above t (Step.Edit by file line) m e = absurd cc
  end_above t (Step.End tree) m e = subst (λ u. is_above scene run u (suc (length before)) ≡ true) (eqb-true tree t e) (both (not (has_some (is_end tree) before)) _ m).1

  -- there is one attach before, and no detach
  came_before : is_there before ≡ true → has_some is_attach before ≡ true
  came_before h = (both (has_some is_attach before) _ h).0

  not_left : is_there before ≡ true → has_some is_detach before ≡ false
  not_left h = not_false (has_some is_detach before) (both (has_some is_attach before) _ h).1

-- ---- trees

trees_at : (m k n : ℕ) (trace : Trace) (tree : Tree) (before : History) → n ≡ m + k → slice_get trace k ≡ Some tree → trees_ended m trace before ≡ true → has_some (is_end n) before ≡ true
trees_at m k n [] tree before e at over = absurd cc
trees_at m zero n (x ∷ trees) tree before e at over = subst (λ i. has_some (is_end i) before ≡ true) (let same : m ≡ n = omega (arith, e) in same) (both (has_some (is_end m) before) _ over).0
trees_at m (suc k) n (x ∷ trees) tree before e at over = trees_at (suc m) k n trees tree before (omega (arith, e)) at (both (has_some (is_end m) before) _ over).1

pub tree_ended : (t : ℕ) (trace : Trace) (tree : Tree) (before : History) → numbered trace t ≡ Some tree → trees_ended 1 trace before ≡ true → has_some (is_end t) before ≡ true
tree_ended zero trace tree before at over = absurd cc
tree_ended (suc k) trace tree before at over = trees_at 1 k (suc k) trace tree before (omega arith) at over

pub trees_all : (m : ℕ) (trace : Trace) (before : History) → ((k : ℕ) (tree : Tree) → slice_get trace k ≡ Some tree → has_some (is_end (m + k)) before ≡ true) → trees_ended m trace before ≡ true
trees_all m [] before each = refl
trees_all m (tree ∷ trees) before each =
    all (has_some (is_end m) before) (trees_ended (suc m) trees before)
    (subst (λ i. has_some (is_end i) before ≡ true) (let same : m + 0 ≡ m = omega arith in same) (each 0 tree refl))
    (trees_all (suc m) trees before (λ k x at. subst (λ i. has_some (is_end i) before ≡ true) (let same : m + suc k ≡ suc m + k = omega arith in same) (each (suc k) x at)))

pub some_tree : (o : Option Tree) → IsSome o → (tree : Tree) × (o ≡ Some tree)
some_tree None s = absurd cc
some_tree (Some tree) s = (tree, refl)

-- versions that are below a number
pub below_all : (n : ℕ) (vs : List ℕ) → list_all (λ v. nat_lt v n) vs ≡ true → AllByRecursion (λ v. v < n) vs
below_all n [] h = tt
below_all n (v ∷ vs) h = let t = both (nat_lt v n) _ h in (ltb-true v n t.0, below_all n vs t.1)

pub all_below : (n : ℕ) (vs : List ℕ) → AllByRecursion (λ v. v < n) vs → list_all (λ v. nat_lt v n) vs ≡ true
all_below n [] h = refl
all_below n (v ∷ vs) h = all (nat_lt v n) _ (lt-ltb v n h.0) (all_below n vs h.1)

-- ---- a place and its step

pub record PlaceCut (test : Step → Bool) (m : ℕ) (history : History) (n : ℕ) : Type 0 where
  pub before : History
  pub pair : Step × Reply
  pub rest : History
  pub cut : history ≡ before ++ pair ∷ rest
  pub passes : test pair.0 ≡ true
  pub number : n ≡ m + length before

first_is : (a b : ℕ) (ms ns : List ℕ) → a ∷ ms ≡ b ∷ ns → a ≡ b
first_is a b ms ns e = cc

pub place_cut : (test : Step → Bool) (m : ℕ) (history : History) (n : ℕ) (ns : List ℕ) → places_from m test history ≡ n ∷ ns → PlaceCut test m history n
place_cut test m [] n ns e = absurd cc
place_cut test m (pair ∷ history) n ns e = go (test pair.0) refl e (λ f. place_cut test (suc m) history n ns f)
  where
    go : (b : Bool) → test pair.0 ≡ b → (if b then m ∷ places_from (suc m) test history else places_from (suc m) test history) ≡ n ∷ ns → (places_from (suc m) test history ≡ n ∷ ns → PlaceCut test (suc m) history n) → PlaceCut test m (pair ∷ history) n
    go true is f more = record { before = []; pair = pair; rest = history; cut = refl; passes = is; number = (let same = first_is m n (places_from (suc m) test history) ns f in omega (arith, same)) }
    go false is f more =
        let c = more f in
        record { before = pair ∷ c.before; pair = c.pair; rest = c.rest; cut = ap (λ h. pair ∷ h) c.cut; passes = c.passes; number = (let same = c.number in omega (arith, same)) }

-- the state before a step of a history
pub state_before : (scene : Scene) (history before : History) (pair : Step × Reply) (rest : History) → history ≡ before ++ pair ∷ rest → state_at scene history (length before) ≡ newest scene before
state_before scene history before pair rest e =
    ap (λ h. state_at scene h (length before)) e ∙ state_at-later scene before (pair ∷ rest) (length before) (omega arith) ∙ state_at-newest scene before

-- ---- from the steps to the clause

pub stop_is : (o : Option ℕ) (n : ℕ) → is_stop o n ≡ true → o ≡ Some n
stop_is None n e = absurd cc
stop_is (Some stop) n e = ap Some (eqb-true stop n e)

pub is_stop_of : (o : Option ℕ) (n : ℕ) → o ≡ Some n → is_stop o n ≡ true
is_stop_of o n e = rw e (eq-eqb n n refl)

pub none_is : (o : Option Query) → not (is_some o) ≡ true → o ≡ None
none_is None e = refl
none_is (Some q) e = absurd cc

module _ (scene : Scene) (run : Run) (book : Book) (trees : EndsAreOfTrees scene run.steps) where
  abbrev pub Passes : History → Step × Reply → Type 0
  Passes before pair = may_act scene run book before pair.0 ≡ true

  module _ (acts : AllAfter Passes [] run.steps) (complete : is_complete scene run.steps ≡ true) where
    here : (before : History) (pair : Step × Reply) (rest : History) → run.steps ≡ before ++ pair ∷ rest → may_act scene run book before pair.0 ≡ true
    here before pair rest e = at_split Passes before pair rest [] (subst (AllAfter Passes []) e acts)

    came : has_some is_attach run.steps ≡ true
    came = (both (has_some is_attach run.steps) _ complete).0

    left : has_some is_detach run.steps ≡ true
    left = (both (has_some is_detach run.steps) _ (both (has_some is_attach run.steps) _ complete).1).0

    over : trees_ended 1 scene.trace run.steps ≡ true
    over = (both (has_some is_detach run.steps) _ (both (has_some is_attach run.steps) _ complete).1).1

    attach : (a : ℕ) × (places is_attach run.steps ≡ a ∷ [])
    attach = single is_attach run.steps (map_after Passes (OnlyFirst is_attach) (λ before pair m. attach_first scene run book before pair.0 m) [] run.steps acts) came

    detach : (d : ℕ) × (places is_detach run.steps ≡ d ∷ [])
    detach =
        single is_detach run.steps
        (map_after Passes (OnlyFirst is_detach) (λ before pair m e. not_left scene run book before (detach_there scene run book before pair.0 m e)) [] run.steps acts) left

    cut_detach : PlaceCut is_detach 1 run.steps detach.0
    cut_detach = place_cut is_detach 1 run.steps detach.0 [] detach.1

    detach_number : detach.0 ≡ suc (length cut_detach.before)
    detach_number = let same = cut_detach.number in omega (arith, same)

    may_detach : may_act scene run book cut_detach.before cut_detach.pair.0 ≡ true
    may_detach = here cut_detach.before cut_detach.pair cut_detach.rest cut_detach.cut

    first : attach.0 < detach.0
    first =
        let lt : attach.0 < suc (length cut_detach.before) =
        stands_before is_attach cut_detach.before cut_detach.pair cut_detach.rest attach.0 (detach_no_attach cut_detach.pair.0 cut_detach.passes) (ap (places is_attach) (sym cut_detach.cut) ∙ attach.1)
        (came_before scene run book cut_detach.before (detach_there scene run book cut_detach.before cut_detach.pair.0 may_detach cut_detach.passes)) in
        let same = detach_number in
        omega (arith, lt, same)

    answer_between : (before : History) (pair : Step × Reply) (rest : History) → run.steps ≡ before ++ pair ∷ rest → is_answer pair.0 ≡ true → (attach.0 < suc (length before)) × (suc (length before) < detach.0)
    answer_between before pair rest e is =
        let there = answer_there scene run book before pair.0 (here before pair rest e) is in (
          stands_before is_attach before pair rest attach.0 (answer_no_attach pair.0 is) (ap (places is_attach) (sym e) ∙ attach.1) (came_before scene run book before there),
          stands_later is_detach before pair rest detach.0 (answer_no_detach pair.0 is) (ap (places is_detach) (sym e) ∙ detach.1) (not_left scene run book before there),
        )

    between : AllByRecursion (λ answer. (attach.0 < answer) × (answer < detach.0)) (places is_answer run.steps)
    between =
        all_places (λ n. (attach.0 < n) × (n < detach.0)) is_answer run.steps []
        (of_splits (λ before (pair : Step × Reply). is_answer pair.0 ≡ true → (attach.0 < suc (length before)) × (suc (length before) < detach.0)) run.steps [] (λ before pair rest e is. answer_between before pair rest e is))

    enough : (o : Option ℕ) → book.stop ≡ o → IfSome o (λ n. length (places is_answer run.steps) ≤ n)
    enough None e = tt
    enough (Some n) e =
        counted (λ k. k ≤ n) is_answer run.steps [] (omega arith)
        (map_after Passes (λ before (pair : Step × Reply). is_answer pair.0 ≡ true → suc (length (places is_answer before)) ≤ n)
        (λ before pair m is.
        let room : has_room (Some n) (length (places is_answer before)) ≡ true = subst (λ o. has_room o (length (places is_answer before)) ≡ true) e (answer_room scene run book before pair.0 m is) in
        let lt = ltb-true (length (places is_answer before)) n room in
        omega (arith, lt))
        [] run.steps acts)

    answered : (before : History) (serial code : ℕ) (o : Option Query) → first_query (newest scene before).queries ≡ o → is_answered_so book o serial code ≡ true
        → (query : Query) × (first_query (newest scene before).queries ≡ Some query) × (query.serial ≡ serial) × (code_of (book_answer book query) ≡ code)
    answered before serial code None e so = absurd cc
    answered before serial code (Some query) e so =
        let t = both (query.serial == serial) _ so in
        (query, e, eqb-true query.serial serial t.0, eqb-true (code_of (book_answer book query)) code t.1)

    by_book : AnswersByBook scene run.steps book
    by_book version serial code is =
        let c = cut_at run.steps version (Step.Answer serial code) is in
        let m = here c.before (Step.Answer serial code, c.reply) c.rest c.cut in
        let so = answer_so scene run book c.before serial code m in
        let same : state_at scene run.steps version ≡ newest scene c.before = ap (state_at scene run.steps) (sym c.number) ∙ state_before scene run.steps c.before (Step.Answer serial code, c.reply) c.rest c.cut in
        let f = answered c.before serial code (first_query (newest scene c.before).queries) refl so in
        (f.0, rw same f.1, f.2, f.3)

    ends : (t : ℕ) (tree : Tree) → numbered scene.trace t ≡ Some tree → (end : ℕ) × (places (is_end t) run.steps ≡ end ∷ []) × AllByRecursion (λ version. version < end) (seen_by_tree scene run t)
    ends t tree at =
        let s = single (is_end t) run.steps (map_after Passes (OnlyFirst (is_end t)) (λ before pair m. end_first scene run book before t pair.0 m) [] run.steps acts) (tree_ended t scene.trace tree run.steps at over) in
        let c = place_cut (is_end t) 1 run.steps s.0 [] s.1 in
        let m = here c.before c.pair c.rest c.cut in
        let above = end_above scene run book c.before t c.pair.0 m c.passes in
        let same : suc (length c.before) ≡ s.0 = (let n = c.number in omega (arith, n)) in
        (s.0, s.1, subst (λ n. AllByRecursion (λ version. version < n) (seen_by_tree scene run t)) same (below_all (suc (length c.before)) (seen_by_tree scene run t) above))

    -- where all trees had ended before the supervisor left, every End stands before
    end_below : trees_ended 1 scene.trace cut_detach.before ≡ true → (before : History) (pair : Step × Reply) (rest : History) → run.steps ≡ before ++ pair ∷ rest → is_some_end pair.0 ≡ true → suc (length before) < detach.0
    end_below ended before pair rest e is =
        let it = end_is pair.0 is in
        let number : step_at run.steps (suc (length before)) ≡ Some (Step.End it.0) = ap (λ h. step_at h (suc (length before))) e ∙ step_here before pair rest ∙ ap Some it.1 in
        let tree = some_tree (numbered scene.trace it.0) (trees it.0 (suc (length before)) number) in
        let one = ends it.0 tree.0 tree.1 in
        let lt : one.0 < suc (length cut_detach.before) =
        stands_before (is_end it.0) cut_detach.before cut_detach.pair cut_detach.rest one.0 (detach_no_end it.0 cut_detach.pair.0 cut_detach.passes) (ap (places (is_end it.0)) (sym cut_detach.cut) ∙ one.1)
        (tree_ended it.0 scene.trace tree.0 cut_detach.before tree.1 ended) in
        let passes : is_end it.0 pair.0 ≡ true = ap (is_end it.0) it.1 ∙ eq-eqb it.0 it.0 refl in
        let o = only (is_end it.0) before pair rest one.0 passes (ap (places (is_end it.0)) (sym e) ∙ one.1) in
        let same = detach_number in
        let at = o.here in
        omega (arith, lt, same, at)

    due : DetachIsDue scene run.steps book detach.0
    due = by_reason (either (is_stop book.stop (length (places is_answer cut_detach.before))) _ (detach_due scene run book cut_detach.before cut_detach.pair.0 may_detach cut_detach.passes))
      where
        by_reason : (is_stop book.stop (length (places is_answer cut_detach.before)) ≡ true) ⊎ ((trees_ended 1 scene.trace cut_detach.before && not (is_some (first_query (newest scene cut_detach.before).queries))) ≡ true)
            → DetachIsDue scene run.steps book detach.0
        by_reason (inl stop) =
            let answers : AllByRecursion (λ k. k < suc (length cut_detach.before)) (places is_answer (cut_detach.before ++ cut_detach.pair ∷ cut_detach.rest)) =
            subst (λ h. AllByRecursion (λ k. k < suc (length cut_detach.before)) (places is_answer h)) cut_detach.cut (below (places is_answer run.steps) between) in
            let same : places is_answer run.steps ≡ places is_answer cut_detach.before =
            ap (places is_answer) cut_detach.cut ∙ all_before is_answer cut_detach.before cut_detach.pair cut_detach.rest (detach_no_answer cut_detach.pair.0 cut_detach.passes) answers in
            inl (stop_is book.stop (length (places is_answer cut_detach.before)) stop ∙ ap (λ ns. Some (length ns)) (sym same))
          where
            below : (ns : List ℕ) → AllByRecursion (λ answer. (attach.0 < answer) × (answer < detach.0)) ns → AllByRecursion (λ k. k < suc (length cut_detach.before)) ns
            below [] h = tt
            below (n ∷ ns) h = (let same = detach_number in let lt = h.0.1 in omega (arith, same, lt), below ns h.1)
        by_reason (inr over_) =
            let t = both (trees_ended 1 scene.trace cut_detach.before) _ over_ in
            inr (
              all_places (λ n. n < detach.0) is_some_end run.steps []
                  (of_splits (λ before (pair : Step × Reply). is_some_end pair.0 ≡ true → suc (length before) < detach.0) run.steps [] (λ before pair rest e is. end_below t.0 before pair rest e is)),
              (λ version is.
                  let same : version ≡ length cut_detach.before = (let d = detach_number in omega (arith, is, d)) in
                  let state : state_at scene run.steps version ≡ newest scene cut_detach.before = ap (state_at scene run.steps) same ∙ state_before scene run.steps cut_detach.before cut_detach.pair cut_detach.rest cut_detach.cut in
                  rw state (none_is (first_query (newest scene cut_detach.before).queries) t.1)),
            )

    pub supervised : Supervised scene run.steps book × TreesEnd scene run
    supervised = (
      record {
        attach = attach.0;
        detach = detach.0;
        attached_once = attach.1;
        detached_once = detach.1;
        attached_first = first;
        answers_between = between;
        answers_enough = enough book.stop refl;
        by_book = by_book;
        due = due;
      },
      ends,
    )
