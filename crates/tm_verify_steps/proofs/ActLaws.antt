-- What the supervisor and the trees' ends have done, after one step more, and whether they may go
-- on so.
use Rattle.std.proofs.Common.{◌≡◌, ◌≤◌, ◌<◌, ◌+◌, ℕ, zero, suc, nat_lt, Bool, true, false, ◌==◌, ◌&&◌, ◌||◌, not, List, [], ◌∷◌, ◌++◌, length, take, drop, Option, Some, None, refl, sym, ap, ◌∙◌, subst, arith, length-append}
use Rattle.std.specs.Prelude.{if◌then◌else◌, slice_get, is_some}
use Rattle.std.specs.Option.{option_or}
use Rattle.std.specs.List.{list_all}
use Rattle.std.specs.Ordering.{nat_cmp}
use Rattle.std.specs.BTreeSet.{contains}
use Rattle.std.proofs.lemmas.List.{take_all}
use Rattle.tm_word.specs.Prelude.{is_empty}
use Rattle.tm_rules.specs.Prelude.{Trace, first_query}
use Rattle.tm_rules.specs.Types.{Book, Reply, Run, Step}
use Rattle.tm_legal.specs.Prelude.{Case, History, Scene, cases_of, is_answer, is_attach, is_detach, is_end, is_of_supervisor, newest, places, raised, seen, seen_by_tree}
use Rattle.tm_legal.proofs.Histories.{places-push, places-other}
use Rattle.tm_verify_laws.specs.First.{first_failing, first_failing_after}
use Rattle.tm_verify_laws.specs.Desk.{has_some, is_there, trees_ended, has_room, is_stop, is_answered_so, may_leave, is_above, may_act, is_complete, desk_fault}
use Rattle.tm_verify_notes.specs.declared.steps.StepNote.{StepNote}
use Rattle.tm_verify_notes.specs.Stepping.{suits, IsStepNote, AreNoted}
use Rattle.tm_verify_steps.specs.declared.acts.Acts.{Acts}
use Rattle.tm_verify_steps.specs.Heights.{ByTree, raised_all, seen_in}
use Rattle.tm_verify_steps.specs.Acting.{IsActing, HasActed, have_ended, may_make}
use Rattle.tm_verify_steps.proofs.HeightLaws.{raised_seen, above_all}
use Rattle.tm_verify_steps.proofs.PlaceLaws.{cut_here, front_here, long_here, none_left, scan_more, scan_stops, noted_at}

some_pushed : (ns : List ℕ) (n : ℕ) → not (is_empty (ns ++ n ∷ [])) ≡ true
some_pushed [] n = refl
some_pushed (m ∷ ns) n = refl

or_true : (b : Bool) → (b || true) ≡ true
or_true true = refl
or_true false = refl

or_false : (b : Bool) → (b || false) ≡ b
or_false true = refl
or_false false = refl

-- some of the steps passes after one more
some_more : (test : Step → Bool) (before : History) (step : Step) (reply : Reply) → has_some test (before ++ (step, reply) ∷ []) ≡ (has_some test before || test step)
some_more test before step reply = go (test step) refl
  where
    go : (b : Bool) → test step ≡ b → has_some test (before ++ (step, reply) ∷ []) ≡ (has_some test before || b)
    go true is = rw (places-push test before step reply is) (some_pushed (places test before) (suc (length before)) ∙ sym (or_true (has_some test before)))
    go false is = rw (places-other test before step reply is) (sym (or_false (has_some test before)))

count_more : (before : History) (step : Step) (reply : Reply) (n : ℕ) → n ≡ length (places is_answer before) → (if is_answer step then suc n else n) ≡ length (places is_answer (before ++ (step, reply) ∷ []))
count_more before step reply n e = go (is_answer step) refl
  where
    go : (b : Bool) → is_answer step ≡ b → (if b then suc n else n) ≡ length (places is_answer (before ++ (step, reply) ∷ []))
    go true is =
        let long = length-append (places is_answer before) (suc (length before) ∷ []) in
        rw (places-push is_answer before step reply is) (omega (arith, e, long))
    go false is = rw (places-other is_answer before step reply is) e

-- one step more
acted : (before : History) (step : Step) (reply : Reply) (old new : Acts) → IsActing before old → HasActed old new step → IsActing (before ++ (step, reply) ∷ []) new
acted before step reply old new h a =
    record {
      came = a.came ∙ ap (λ b. b || is_attach step) h.came ∙ sym (some_more is_attach before step reply);
      left = a.left ∙ ap (λ b. b || is_detach step) h.left ∙ sym (some_more is_detach before step reply);
      answers = a.answers ∙ count_more before step reply old.answers h.answers;
      ended = λ t. a.ended t ∙ ap (λ b. b || is_end t step) (h.ended t) ∙ sym (some_more (is_end t) before step reply);
    }

-- the trees have ended as the steps say
have_ended_is : (before : History) (acts : Acts) (t : ℕ) (trace : Trace) → IsActing before acts → have_ended acts t trace ≡ trees_ended t trace before
have_ended_is before acts t [] h = refl
have_ended_is before acts t (tree ∷ trees) h = rw (h.ended t, have_ended_is before acts (suc t) trees h) refl

-- nothing is missing
pub is_complete_is : (scene : Scene) (history : History) (acts : Acts) → IsActing history acts → (acts.came && (acts.left && have_ended acts 1 scene.trace)) ≡ is_complete scene history
is_complete_is scene history acts h = rw (h.came, h.left, have_ended_is history acts 1 scene.trace h) refl

-- what may be made is what may be done after these steps
may_is : (scene : Scene) (run : Run) (book : Book) (before : History) (acts : Acts) (heights : ByTree) (number : ℕ) (b : Bool) (step : Step) → IsActing before acts → number ≡ suc (length before)
    → b ≡ suits (Some book) (first_query (newest scene before).queries) step → heights ≡ raised_all (λ t. 0) (cases_of scene run)
    → may_make acts heights scene.trace book number b step ≡ may_act scene run book before step
unfolding may_act
may_is scene run book before acts heights number b (Step.Learn d entry) h n s e = refl
may_is scene run book before acts heights number b (Step.Make d name) h n s e = refl
may_is scene run book before acts heights number b (Step.Fail d) h n s e = refl
may_is scene run book before acts heights number b (Step.Ask d retry line) h n s e = refl
may_is scene run book before acts heights number b (Step.Edit by file line) h n s e = refl
may_is scene run book before acts heights number b Step.Attach h n s e = ap not h.came
may_is scene run book before acts heights number b (Step.Answer serial code) h n s e = rw (h.came, h.left, h.answers, s) refl
may_is scene run book before acts heights number b Step.Detach h n s e = rw (h.came, h.left, h.answers, s, have_ended_is before acts 1 scene.trace h) refl
may_is scene run book before acts heights number b (Step.End t) h n s e =
    let height : heights t ≡ raised 0 (seen_by_tree scene run t) = ap (λ (hs : ByTree). hs t) e ∙ raised_seen (λ k. 0) (cases_of scene run) t in
    let some : 0 < suc (length before) = omega arith in
    let above : nat_lt (heights t) number ≡ is_above scene run t (suc (length before)) =
    ap (λ k. nat_lt k number) height ∙ ap (nat_lt (raised 0 (seen_by_tree scene run t))) n ∙ above_all (suc (length before)) (seen_by_tree scene run t) some in
    ap (λ c. not c && nat_lt (heights t) number) (h.ended t) ∙ ap (λ c. not (has_some (is_end t) before) && c) above

-- ---- the steps gone over

-- the test of a step after those before it
abbrev acts_so : Scene → Run → Book → History → Step × Reply → Bool
acts_so scene run book before pair = may_act scene run book before pair.0

-- the whole fault
abbrev fault_of : Scene → Run → Book → Option ℕ
fault_of scene run book = first_failing_after (acts_so scene run book) [] run.steps

-- what is known where the steps are gone over
pub record IsPassing (scene : Scene) (run : Run) (book : Book) (k : ℕ) (acts : Acts) : Type 0 where
  pub acting : IsActing (take k run.steps) acts
  pub few : acts.answers ≤ k
  pub leads : first_failing_after (acts_so scene run book) (take k run.steps) (drop k run.steps) ≡ fault_of scene run book

few_more : (old new : Acts) (step : Step) (k : ℕ) → HasActed old new step → old.answers ≤ k → new.answers ≤ suc k
few_more old new step k a h = go (is_answer step) a.answers
  where
    go : (b : Bool) → new.answers ≡ (if b then suc old.answers else old.answers) → new.answers ≤ suc k
    go true e = omega (arith, e, h)
    go false e = omega (arith, e, h)

may_at : (scene : Scene) (run : Run) (book : Book) (k : ℕ) (pair : Step × Reply) (note : StepNote) (notes : List StepNote) (acts : Acts) (heights : ByTree) → IsPassing scene run book k acts
    → scene.book ≡ Some book → heights ≡ raised_all (λ t. 0) (cases_of scene run) → AreNoted scene [] run.steps notes → slice_get run.steps k ≡ Some pair → slice_get notes k ≡ Some note
    → may_make acts heights scene.trace book (suc k) note.suits pair.0 ≡ acts_so scene run book (take k run.steps) pair
may_at scene run book k pair note notes acts heights way by high noted at n =
    let here = noted_at scene [] run.steps notes k pair note noted at n in
    let fits : note.suits ≡ suits (Some book) (first_query (newest scene (take k run.steps)).queries) pair.0 = here.suits ∙ ap (λ o. suits o (first_query (newest scene (take k run.steps)).queries) pair.0) by in
    may_is scene run book (take k run.steps) acts heights (suc k) note.suits pair.0 way.acting (ap suc (sym (long_here run.steps k pair at))) fits high

-- one step more
pub step_acted : (scene : Scene) (run : Run) (book : Book) (k next number : ℕ) (pair : Step × Reply) (note : StepNote) (notes : List StepNote) (old new : Acts) (heights : ByTree) (b : Bool) → IsPassing scene run book k old
    → scene.book ≡ Some book → heights ≡ raised_all (λ t. 0) (cases_of scene run) → AreNoted scene [] run.steps notes → slice_get run.steps k ≡ Some pair → slice_get notes k ≡ Some note
    → b ≡ may_make old heights scene.trace book number note.suits pair.0 → number ≡ k + 1 → next ≡ k + 1 → b ≡ true → HasActed old new pair.0 → IsPassing scene run book next new
step_acted scene run book k next number pair note notes old new heights b way by high noted at n may is more passed a =
    let place : suc k ≡ next = omega (arith, more) in
    let same : number ≡ suc k = omega (arith, is) in
    let passes : acts_so scene run book (take k run.steps) pair ≡ true =
    sym (may_at scene run book k pair note notes old heights way by high noted at n) ∙ ap (λ m. may_make old heights scene.trace book m note.suits pair.0) (sym same) ∙ sym may ∙ passed in
    subst (λ j. IsPassing scene run book j new) place
    (record {
      acting = subst (λ hs. IsActing hs new) (sym (front_here run.steps k pair at)) (acted (take k run.steps) pair.0 pair.1 old new way.acting a);
      few = few_more old new pair.0 k a way.few;
      leads = scan_more (acts_so scene run book) run.steps k pair at passes ∙ way.leads;
    })

-- what the fault is where there is a book
by_book : (scene : Scene) (run : Run) (book : Book) → scene.book ≡ Some book → desk_fault scene run ≡ option_or (fault_of scene run book) (if is_complete scene run.steps then None else Some 0)
unfolding desk_fault
by_book scene run book e = rw e refl

-- the step that may not be made
pub step_at_fault : (scene : Scene) (run : Run) (book : Book) (k number : ℕ) (pair : Step × Reply) (note : StepNote) (notes : List StepNote) (acts : Acts) (heights : ByTree) (b : Bool) → IsPassing scene run book k acts
    → scene.book ≡ Some book → heights ≡ raised_all (λ t. 0) (cases_of scene run) → AreNoted scene [] run.steps notes → slice_get run.steps k ≡ Some pair → slice_get notes k ≡ Some note
    → b ≡ may_make acts heights scene.trace book number note.suits pair.0 → number ≡ k + 1 → b ≡ false → Some number ≡ desk_fault scene run
step_at_fault scene run book k number pair note notes acts heights b way by high noted at n may is fails =
    let same : number ≡ suc k = omega (arith, is) in
    let stops : acts_so scene run book (take k run.steps) pair ≡ false =
    sym (may_at scene run book k pair note notes acts heights way by high noted at n) ∙ ap (λ m. may_make acts heights scene.trace book m note.suits pair.0) (sym same) ∙ sym may ∙ fails in
    let fault : fault_of scene run book ≡ Some (suc k) = sym way.leads ∙ scan_stops (acts_so scene run book) run.steps k pair at stops in
    ap (λ m. Some m) same ∙ sym (by_book scene run book by ∙ ap (λ o. option_or o (if is_complete scene run.steps then None else Some 0)) fault)

-- no step is at fault
pub no_step_at_fault : (scene : Scene) (run : Run) (book : Book) (k : ℕ) (acts : Acts) (b : Bool) → IsPassing scene run book k acts → scene.book ≡ Some book → length run.steps ≤ k
    → b ≡ (acts.came && (acts.left && have_ended acts 1 scene.trace)) → (if b then None else Some 0) ≡ desk_fault scene run
no_step_at_fault scene run book k acts b way by long is =
    let none : fault_of scene run book ≡ None = sym way.leads ∙ ap (first_failing_after (acts_so scene run book) (take k run.steps)) (none_left run.steps k long) in
    let all : IsActing run.steps acts = subst (λ hs. IsActing hs acts) (take_all k run.steps long) way.acting in
    let complete : b ≡ is_complete scene run.steps = is ∙ is_complete_is scene run.steps acts all in
    ap (λ c. if c then None else Some 0) complete ∙ sym (by_book scene run book by ∙ ap (λ o. option_or o (if is_complete scene run.steps then None else Some 0)) none)

-- without a book
pub without_book : (scene : Scene) (run : Run) → scene.book ≡ None → desk_fault scene run ≡ first_failing (λ (pair : Step × Reply). not (is_of_supervisor pair.0)) 1 run.steps
unfolding desk_fault
without_book scene run e = rw e refl
