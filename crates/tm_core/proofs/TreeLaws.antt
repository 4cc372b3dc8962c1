-- What the parts of a tree's event are, put together.
use Rattle.std.proofs.Common.{◌≡◌, ℕ, zero, suc, ◌-◌, ◌<◌, ◌≤◌, Bool, true, false, List, [], ◌∷◌, ◌++◌, length, map, refl, sym, ap, ◌∙◌, subst, inl, inr, arith}
use Rattle.std.specs.Prelude.{Option, Some, None, Result, Ok, Err, IfOk, OnOk, IsSome, is_none, option_map, slice_get, slice_set}
use Rattle.std.specs.Option.{option_and_then, option_map_or}
use Rattle.std.proofs.lemmas.List.{map-append}
use Rattle.tm_word.specs.Prelude.{Text}
use Rattle.tm_rules.specs.Types.{FileKind, Item, Look, Made, Maker, Reply, Request, Step, Verdict}
use Rattle.tm_audit.specs.Tomoyo.{tomoyo_grammar}
use Rattle.tm_legal.specs.Prelude.{Applied, InProgress, IsJudged, Needs, NextIsJudged, Settled, Situation, Situations, Stage, StageFits, State, TreeFits, Way, after_answer, after_step, apply, end_tree, going_on, look_at, settle, stage_event, tree_event, verdict}
use Rattle.tm_rules.specs.Prelude.{answer_of, audit_text, is_request}
use Rattle.std.proofs.lemmas.Bool.{lt-ltb, le-leb}
use Rattle.tm_machine.specs.Machine.{Course, history_of}
use Rattle.tm_take.specs.Ways.{IsPassed, PassesTo}
use Rattle.tm_take.specs.declared.judged.Judged.{Judged}
use Rattle.tm_take.specs.Taking.{begun_with, rest_of, serial_of}
use Rattle.tm_take.proofs.TreeEvents.{begins_with, ends_when_passed, makes_own, hears, waits_on, goes_on_alike}
use Rattle.tm_core.specs.Judging.{judged, looked}
use Rattle.tm_core.specs.Moves.{at_course, Makes, MakesOwn, Hears, Ends, TreeMoves, is_waiting}

-- The history

length-map : {A B : Type 0} (f : A → B) (xs : List A) → length (map f xs) ≡ length xs
length-map f [] = refl
length-map f (x ∷ xs) = ap suc (length-map f xs)

pub history-length : (course : Course) → length (history_of course) ≡ length course.made
history-length course = length-map (λ (pair : Made × Reply). (pair.0.step, pair.1)) course.made

pub history-push : (course later : Course) (made : Made) (reply : Reply) → later.made ≡ course.made ++ (made, reply) ∷ [] → history_of later ≡ history_of course ++ (made.step, reply) ∷ []
history-push course later made reply e =
    ap (map (λ (pair : Made × Reply). (pair.0.step, pair.1))) e ∙ map-append (λ (pair : Made × Reply). (pair.0.step, pair.1)) course.made ((made, reply) ∷ [])

-- a step that was made, at a player
pub settled : (course later : Course) (made : Made) (reply : Reply) (ways : List Way) (scripts : List (List (FileKind × Text))) → Makes course made reply later
    → (let s : Settled = record { player = at_course later ways scripts; number = suc (length course.made); reply = reply } in settle tomoyo_grammar (at_course course ways scripts) made.step ≡ Some s)
unfolding settle
settled course later made reply ways scripts makes =
    rw (makes.done, ← history-push course later made reply makes.noted, history-length course) refl

-- Looks

-- the same for each domain
each-domain : {A : Type 0} (f g : ℕ → Option A) (o : Option ℕ) → ((d : ℕ) → f d ≡ g d) → option_and_then f o ≡ option_and_then g o
each-domain f g None h = refl
each-domain f g (Some d) h = h d

-- a look, in two steps
in-two : {A B C : Type 0} (f : B → C) (g : A → B) (h : A → C) (o : Option A) → ((x : A) → h x ≡ f (g x)) → option_map h o ≡ option_map f (option_map g o)
in-two f g h None same = refl
in-two f g h (Some x) same = ap Some (same x)

pub look-is : (course : Course) (now : Situation) (request : Request) (retry : ℕ) (before : List Look) (ways : List Way) (scripts : List (List (FileKind × Text)))
    → look_at tomoyo_grammar (at_course course ways scripts) now request retry before ≡ looked course now request retry before
unfolding look_at
look-is course now request retry before ways scripts = rw (history-length course) (each-domain _ _ now.domain (λ d. in-two _ _ _ (verdict tomoyo_grammar.is_path course.state.policy course.state.queries.attached d now.process request) (λ v. refl)))

-- a look that there is
pub looked-there : (course : Course) (now : Situation) (request : Request) (retry : ℕ) (before : List Look) → IsJudged tomoyo_grammar course.state now request → IsSome (looked course now request retry before)
looked-there course now request retry before h = by_domain now.domain h
  where
    by_verdict : (d : ℕ) (o : Option Verdict) → IsSome o → IsSome (option_map (λ (j : Judged). begun_with tomoyo_grammar (length course.made) now d request retry before j.verdict j.audit) (option_map (λ (v : Verdict). (let j : Judged = record { verdict = v; audit = audit_text tomoyo_grammar course.state.policy d now.process request v } in j)) o))
    by_verdict d None h = absurd cc
    by_verdict d (Some v) h = refl

    by_domain : (o : Option ℕ) → IsSome (option_and_then (λ d. verdict tomoyo_grammar.is_path course.state.policy course.state.queries.attached d now.process request) o) → IsSome (option_and_then (λ d. option_map (λ (j : Judged). begun_with tomoyo_grammar (length course.made) now d request retry before j.verdict j.audit) (judged course.state d now.process request)) o)
    by_domain None h = absurd cc
    by_domain (Some d) h = by_verdict d (verdict tomoyo_grammar.is_path course.state.policy course.state.queries.attached d now.process request) h

-- Ways

slice-same : {A : Type 0} (xs : List A) (n : ℕ) (x : A) → slice_get xs n ≡ Some x → slice_set xs n x ≡ xs
slice-same [] n x at = refl
slice-same (y ∷ xs) zero x at = let same : y ≡ x = cc in ap (λ z. z ∷ xs) (sym same)
slice-same (y ∷ xs) (suc n) x at = ap (λ zs. y ∷ zs) (slice-same xs n x at)

-- no event: nothing changes
still : (desk : Bool) (t : ℕ) (course : Course) (old : Way) → ((ways : List Way) (scripts : List (List (FileKind × Text))) → slice_get ways t ≡ Some old → tree_event tomoyo_grammar (at_course course ways scripts) desk (suc t) ≡ None) → TreeMoves desk t false course old course old
still desk t course old none =
    record {
      event = λ ways scripts at. (none ways scripts at, ap (λ (w : List Way). at_course course w scripts) (slice-same ways t old at));
      start = refl;
      makers = inl refl;
    }

-- a tree that waits for the answer of a query that has none
none-of : {A : Type 0} (o : Option A) → is_none o ≡ true → o ≡ None
none-of None none = refl
none-of (Some x) none = absurd cc

pub waiting-moves : (course : Course) (desk : Bool) (t : ℕ) (old : Way) → is_waiting course.state old ≡ true → TreeMoves desk t false course old course old
waiting-moves course desk t old waits = by_begun old.begun refl waits
  where
    by_stage : (b : InProgress) (stage : Stage) → old.begun ≡ Some b → b.stage ≡ stage → option_map_or (λ serial. is_none (answer_of course.state.queries serial)) (serial_of stage) false ≡ true → TreeMoves desk t false course old course old
    by_stage b (Stage.Owing steps) begun is waits = absurd cc
    by_stage b (Stage.Waiting serial) begun is waits =
        still desk t course old (λ ways scripts at. waits_on (at_course course ways scripts) desk t old b serial at begun is (none-of (answer_of course.state.queries serial) waits))
    by_stage b Stage.Looking begun is waits = absurd cc

    by_begun : (o : Option InProgress) → old.begun ≡ o → option_map_or (λ serial. is_none (answer_of course.state.queries serial)) (option_and_then (λ b. serial_of b.stage) o) false ≡ true → TreeMoves desk t false course old course old
    by_begun None is waits = absurd cc
    by_begun (Some b) is waits = by_stage b b.stage is refl waits

-- A take that has begun

-- one version more
pub version-next : (course later : Course) (made : Made) (reply : Reply) → later.made ≡ course.made ++ (made, reply) ∷ [] → length later.made ≡ suc (length course.made)
version-next course later made reply e = ap length e ∙ one-more course.made (made, reply)
  where
    one-more : {A : Type 0} (xs : List A) (x : A) → length (xs ++ x ∷ []) ≡ suc (length xs)
    one-more [] x = refl
    one-more (y ∷ xs) x = ap suc (one-more xs x)

-- its own step
pub own-moves : (course later : Course) (desk : Bool) (t : ℕ) (old new : Way) (b : InProgress) → MakesOwn course b old later new → TreeMoves desk t true course (record old { begun = Some b }) later new
own-moves course later desk t old new b own =
    let way : Way = record old { begun = Some b } in
    let pid : own.left.now.process.pid ≡ b.now.process.pid = ap (λ (x : InProgress). x.now.process.pid) own.out.is_left in
    record {
      event = λ ways scripts at.
          makes_own (at_course course ways scripts) desk t way b own.left own.step _ at refl own.out (settled course later (record { maker = Maker.Process own.left.now.process.pid; step = own.step }) own.reply ways scripts own.makes)
          ∙ ap (λ (w : Way). Some (at_course later (slice_set ways t w) scripts))
          (sym (goes_on_alike old (Some b) (after_step tomoyo_grammar own.left (rest_of own.left.stage) (suc (length course.made)) own.reply)) ∙ sym own.goes);
      start = own.makes.start;
      makers = inr (record { maker = Maker.Process own.left.now.process.pid; step = own.step }, own.reply, own.makes.noted, sym pid);
    }

-- the taking of its answer
pub hear-moves : (course : Course) (desk : Bool) (t : ℕ) (old new : Way) (b : InProgress) (serial : ℕ) (moved : Bool) → b.stage ≡ Stage.Waiting serial → Hears course serial b old moved new → TreeMoves desk t moved course (record old { begun = Some b }) course new
hear-moves course desk t old new b serial true waits h =
    let way : Way = record old { begun = Some b } in
    record {
      event = λ ways scripts at.
          hears (at_course course ways scripts) desk t way b serial h.0 at refl waits h.1
          ∙ ap (λ (n : ℕ). Some (at_course course (slice_set ways t (going_on tomoyo_grammar way (after_answer tomoyo_grammar b n h.0))) scripts)) (history-length course)
          ∙ ap (λ (w : Way). Some (at_course course (slice_set ways t w) scripts))
          (sym (goes_on_alike old (Some b) (after_answer tomoyo_grammar b (length course.made) h.0)) ∙ sym h.2);
      start = refl;
      makers = inl refl;
    }
hear-moves course desk t old new b serial false waits h =
    rw h.1 (still desk t course (record old { begun = Some b }) (λ ways scripts at. waits_on (at_course course ways scripts) desk t (record old { begun = Some b }) b serial at refl waits h.0))

-- its next look
pub again-moves : (course : Course) (desk : Bool) (t : ℕ) (old new : Way) (b after : InProgress) → b.stage ≡ Stage.Looking → looked course b.now b.request (suc b.retry) (b.looked ++ b.look ∷ []) ≡ Some after
    → new ≡ going_on tomoyo_grammar old after → TreeMoves desk t true course (record old { begun = Some b }) course new
unfolding tree_event stage_event
again-moves course desk t old new b after looking is goes =
    record {
      event = λ ways scripts at.
          rw (at, looking, look-is course b.now b.request (suc b.retry) (b.looked ++ b.look ∷ []) ways scripts, is)
          (ap (λ (w : Way). Some (at_course course (slice_set ways t w) scripts)) (sym (goes_on_alike old (Some b) after) ∙ sym goes));
      start = refl;
      makers = inl refl;
    }

-- a take that has nothing to wait for stays
pub end-moves : (course : Course) (desk : Bool) (t : ℕ) (old new : Way) (b : InProgress) → b.stage ≡ Stage.Owing [] → new ≡ record old { begun = Some b } → TreeMoves desk t false course (record old { begun = Some b }) course new
unfolding tree_event stage_event
end-moves course desk t old new b over same = rw same (still desk t course (record old { begun = Some b }) (λ ways scripts at. rw (at, over) refl))

-- its next request
pub first-moves : (course : Course) (desk : Bool) (t : ℕ) (old passed_to new : Way) (pid : ℕ) (request : Request) (b : InProgress) → old.begun ≡ None → PassesTo pid request old passed_to
    → looked course (passed_to.at pid) request 0 [] ≡ Some b → new ≡ going_on tomoyo_grammar passed_to b → TreeMoves desk t true course old course new
first-moves course desk t old passed_to new pid request b idle passes is goes =
    record {
      event = λ ways scripts at.
          begins_with (at_course course ways scripts) desk t old passed_to pid request b at idle passes (look-is course (passed_to.at pid) request 0 [] ways scripts ∙ is)
          ∙ ap (λ (w : Way). Some (at_course course (slice_set ways t w) scripts)) (sym goes);
      start = refl;
      makers = inl refl;
    }

-- its end
pub ends-moves : (course later : Course) (desk : Bool) (t : ℕ) (old passed_to : Way) (moved : Bool) → old.begun ≡ None → IsPassed old passed_to → Ends desk (suc t) moved course later → TreeMoves desk t moved course old later passed_to
unfolding end_tree
ends-moves course later desk t old passed_to true idle past ends =
    record {
      event = λ ways scripts at.
          ends_when_passed (at_course course ways scripts) desk t old passed_to at idle past
          ∙ rw (ends.0, ends.1, settled course later (record { maker = Maker.Tree (suc t); step = Step.End (suc t) }) Reply.End ways scripts ends.2)
          (ap (λ (w : List Way). Some (at_course later w scripts)) (sym (slice-same ways t old at) ∙ ap (slice_set ways t) (sym past.same)));
      start = ends.2.start;
      makers = inr (record { maker = Maker.Tree (suc t); step = Step.End (suc t) }, Reply.End, ends.2.noted, (refl, refl));
    }
ends-moves course later desk t old passed_to false idle past ends =
    rw (ends.1, past.same) (still desk t course old (λ ways scripts at. ends_when_passed (at_course course ways scripts) desk t old passed_to at idle past ∙ rw ends.0 refl))

-- In the words of the code

pub some-of : {A : Type 0} (o : Option A) → IsSome o → (x : A) × (o ≡ Some x)
some-of None h = absurd cc
some-of (Some x) h = (x, refl)

pub own-event : {E : Type 0} (course later : Course) (old new : Way) (b : InProgress) (result : Result Bool E) → IfOk result (λ moved. moved ≡ true) → OnOk result (MakesOwn course b old later new)
    → IfOk result (λ moved. (desk : Bool) (t : ℕ) → TreeMoves desk t moved course (record old { begun = Some b }) later new)
own-event course later old new b (Ok moved) is own = λ desk t. subst (λ m. TreeMoves desk t m course (record old { begun = Some b }) later new) (sym is) (own-moves course later desk t old new b own)
own-event course later old new b (Err e) is own = tt

pub hear-event : {E : Type 0} (course : Course) (old new : Way) (b : InProgress) (serial : ℕ) (result : Result Bool E) → b.stage ≡ Stage.Waiting serial → IfOk result (λ moved. Hears course serial b old moved new)
    → IfOk result (λ moved. (desk : Bool) (t : ℕ) → TreeMoves desk t moved course (record old { begun = Some b }) course new)
hear-event course old new b serial (Ok moved) waits h = λ desk t. hear-moves course desk t old new b serial moved waits h
hear-event course old new b serial (Err e) waits h = tt

-- a take that is to look again is judged
pub again-there : (course : Course) (b : InProgress) → b.stage ≡ Stage.Looking → StageFits tomoyo_grammar course.state b b.stage → IsSome (looked course b.now b.request (suc b.retry) (b.looked ++ b.look ∷ []))
again-there course b looking fits = looked-there course b.now b.request (suc b.retry) (b.looked ++ b.look ∷ []) (subst (StageFits tomoyo_grammar course.state b) looking fits)

pub again-event : (course : Course) (desk : Bool) (t : ℕ) (old new : Way) (b : InProgress) → b.stage ≡ Stage.Looking → StageFits tomoyo_grammar course.state b b.stage
    → ((after : InProgress) → looked course b.now b.request (suc b.retry) (b.looked ++ b.look ∷ []) ≡ Some after → new ≡ going_on tomoyo_grammar old after) → TreeMoves desk t true course (record old { begun = Some b }) course new
again-event course desk t old new b looking fits goes =
    let (after, is) = some-of (looked course b.now b.request (suc b.retry) (b.looked ++ b.look ∷ [])) (again-there course b looking fits) in
    again-moves course desk t old new b after looking is (goes after is)

-- the next request of a tree can be asked, and is judged
pub next-judged : (s : State) (old later : Way) (pid : ℕ) (request : Request) → Needs tomoyo_grammar s old → old.begun ≡ None → PassesTo pid request old later → (is_request tomoyo_grammar.is_path request ≡ true) × IsJudged tomoyo_grammar s (later.at pid) request
next-judged s old later pid request needs idle passes =
    subst (λ (p : Situations × List Item). NextIsJudged tomoyo_grammar s p.0 p.1) passes.passes (subst (TreeFits tomoyo_grammar s old) idle needs.fits)

pub first-there : (course : Course) (old later : Way) (pid : ℕ) (request : Request) → Needs tomoyo_grammar course.state old → old.begun ≡ None → PassesTo pid request old later → IsSome (looked course (later.at pid) request 0 [])
first-there course old later pid request needs idle passes = looked-there course (later.at pid) request 0 [] (next-judged course.state old later pid request needs idle passes).1

pub first-event : (course : Course) (desk : Bool) (t : ℕ) (old later new : Way) (pid : ℕ) (request : Request) → Needs tomoyo_grammar course.state old → old.begun ≡ None → PassesTo pid request old later
    → ((b : InProgress) → looked course (later.at pid) request 0 [] ≡ Some b → new ≡ going_on tomoyo_grammar later b) → TreeMoves desk t true course old course new
first-event course desk t old later new pid request needs idle passes goes =
    let (b, is) = some-of (looked course (later.at pid) request 0 []) (first-there course old later pid request needs idle passes) in
    first-moves course desk t old later new pid request b idle passes is (goes b is)

-- trees are numbered from 1
pub ends-event : {E : Type 0} (course later : Course) (desk : Bool) (number : ℕ) (old passed_to : Way) (result : Result Bool E) → 0 < number → old.begun ≡ None → IsPassed old passed_to
    → IfOk result (λ moved. Ends desk number moved course later) → IfOk result (λ moved. TreeMoves desk (number - 1) moved course old later passed_to)
ends-event course later desk number old passed_to (Ok moved) some idle past ends =
    let is : number ≡ suc (number - 1) = omega arith in
    ends-moves course later desk (number - 1) old passed_to moved idle past (subst (λ n. Ends desk n moved course later) is ends)
ends-event course later desk number old passed_to (Err e) some idle past ends = tt

-- the tree whose take was taken out, and put back
pub put-back-same : (old new : Way) (b : InProgress) → new ≡ record old { begun = None } → old.begun ≡ Some b → record new { begun = Some b } ≡ old
put-back-same old new b out begun = ap (λ (w : Way). (let v : Way = record w { begun = Some b } in v)) out ∙ ap (λ (o : Option InProgress). (let v : Way = record old { begun = o } in v)) (sym begun)

pub put-back-event : {E : Type 0} (course later : Course) (desk : Bool) (t : ℕ) (old out new : Way) (b : InProgress) (result : Result Bool E) → out ≡ record old { begun = None } → old.begun ≡ Some b
    → IfOk result (λ moved. (desk : Bool) (t : ℕ) → TreeMoves desk t moved course (record out { begun = Some b }) later new) → IfOk result (λ moved. TreeMoves desk t moved course old later new)
put-back-event course later desk t old out new b (Ok moved) left begun h = subst (λ (w : Way). TreeMoves desk t moved course w later new) (put-back-same old out b left begun) (h desk t)
put-back-event course later desk t old out new b (Err e) left begun h = tt

-- a tree that is there can end
pub end-fits : (s : State) (number : ℕ) → 0 < number → number ≤ s.trees → IsSome (apply tomoyo_grammar s (Step.End number)).reply
unfolding apply
end-fits s number some within = rw (lt-ltb 0 number some, le-leb number s.trees within) refl

pub end-replied : (s : State) (number : ℕ) (later : State) (reply : Reply) → 0 < number → number ≤ s.trees → (let done : Applied = record { state = later; reply = Some reply } in apply tomoyo_grammar s (Step.End number) ≡ done) → reply ≡ Reply.End
unfolding apply
end-replied s number later reply some within done =
    let both : Some Reply.End ≡ Some reply = ap (λ (a : Applied). a.reply) (rw (lt-ltb 0 number some, le-leb number s.trees within) at done) in cc
