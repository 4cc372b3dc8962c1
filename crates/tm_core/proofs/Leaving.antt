-- What each event leaves to the trees that it isn't an event of.
use Rattle.std.proofs.Common.{◌≡◌, ◌≤◌, ◌<◌, ℕ, zero, suc, List, [], ◌∷◌, ◌++◌, length, map, Bool, true, false, not, true≢false, refl, sym, ap, ◌∙◌, subst, arith}
use Rattle.std.specs.Prelude.{Option, Some, None, IsSome, option_map, is_some, slice_get, slice_set, if◌then◌else◌, ◌==◌, ◌||◌, ◌&&◌, nat_lt, nat_le, unwrap_or}
use Rattle.std.specs.Option.{option_and_then, option_map_or}
use Rattle.std.specs.List.{AllByRecursion, list_any}
use Rattle.std.proofs.lemmas.Bool.{lt-ltb, le-leb, eq-eqb}
use Rattle.std.proofs.lemmas.Option.{slice_get_within}
use Rattle.tm_word.specs.Prelude.{Text}
use Rattle.tm_rules.specs.Types.{AnswerFault, Answered, Book, Editor, Entry, FileKind, Held, Item, Look, Move, Policy, Reason, Reply, Request, Step, Tree, Turn, Verdict}
use Rattle.tm_rules.specs.Prelude.{DomainName, Grammar, Queries, Standing, answer, answer_coded, answer_fault, answer_of, ask, attach, changed_at, fail, in_domain, is_manager, learn, make, numbered, put_member, when, with_answer}
use Rattle.tm_legal.specs.Prelude.{Applied, CanGoOn, CanPlay, InProgress, IsJudged, Needs, NextIsJudged, Player, Scene, Settled, Situation, Situations, Stage, StageFits, State, TreeFits, Way, after_answer, after_step, apply, at_start, desk_turn, edit_step, editor_event, end_tree, event, first_look, fits_entry, fits_name, going_on, has_step, is_attach, is_first, is_granting, line_event, look_at, on_policy, on_queries, on_way, passed, player_event, settle, stage_event, start_of, steps_of_line, steps_of_move, supervisor_step, tree_event, turn, turns, unfit, verdict}
use Rattle.tm_legal.proofs.PlayLaws.{turns-append}
use Rattle.tm_legal.proofs.NeedsLaws.{can-go-on}
use Rattle.tm_take.specs.Taking.{serial_of}

-- Options

some-map : {A B : Type 0} (f : A → B) (o : Option A) (y : B) → option_map f o ≡ Some y → (x : A) × (o ≡ Some x) × (f x ≡ y)
some-map f None y e = absurd cc
some-map f (Some x) y e = (x, refl, let same : f x ≡ y = cc in same)

map-none : {A B : Type 0} (f : A → B) (o : Option A) → option_map f o ≡ None → o ≡ None
map-none f None e = refl
map-none f (Some x) e = absurd cc

none-some : {A : Type 0} (o : Option A) → o ≡ None → IsSome o → ⊥
none-some None e h = absurd cc
none-some (Some x) e h = absurd cc

-- Lists

get-set-other : {A : Type 0} (xs : List A) (k t : ℕ) (x : A) → (t ≡ k → ⊥) → slice_get (slice_set xs k x) t ≡ slice_get xs t
get-set-other [] k t x other = refl
get-set-other (y ∷ xs) zero zero x other = absurd (other refl)
get-set-other (y ∷ xs) zero (suc t) x other = refl
get-set-other (y ∷ xs) (suc k) zero x other = refl
get-set-other (y ∷ xs) (suc k) (suc t) x other = get-set-other xs k t x (λ e. other (ap suc e))

All-get : {A : Type 0} (P : A → Type 0) (xs : List A) (k : ℕ) (x : A) → AllByRecursion P xs → slice_get xs k ≡ Some x → P x
All-get P [] k x all at = absurd cc
All-get P (y ∷ xs) zero x all at = subst P (let same : y ≡ x = cc in same) all.0
All-get P (y ∷ xs) (suc k) x all at = All-get P xs k x all.1 at

All-set : {A : Type 0} (P : A → Type 0) (xs : List A) (k : ℕ) (x : A) → AllByRecursion P xs → P x → AllByRecursion P (slice_set xs k x)
All-set P [] k x all h = tt
All-set P (y ∷ xs) zero x all h = (h, all.1)
All-set P (y ∷ xs) (suc k) x all h = (all.0, All-set P xs k x all.1 h)

pub All-later : {A : Type 0} (P Q : A → Type 0) (xs : List A) → ((x : A) → P x → Q x) → AllByRecursion P xs → AllByRecursion Q xs
All-later P Q [] f all = tt
All-later P Q (x ∷ xs) f all = (f x all.0, All-later P Q xs f all.1)

pub All-both : {A : Type 0} (P : A → Type 0) (xs ys : List A) → AllByRecursion P xs → AllByRecursion P ys → AllByRecursion P (xs ++ ys)
All-both P [] ys all more = more
All-both P (x ∷ xs) ys all more = (all.0, All-both P xs ys all.1 more)

-- What a step leaves

-- the serial that a step answers
abbrev pub heard_by : Step → Option ℕ
heard_by (Step.Answer serial code) = Some serial
heard_by _ = None

-- the supervisor doesn't leave with it
abbrev pub Stays : Step → Type 0
Stays Step.Detach = ⊥
Stays _ = Unit {0}

-- a query but that of this serial has no more answer than before, and the trees that have ended
-- have so
pub record Calm (heard : Option ℕ) (s s' : State) : Type 0 where
  pub answers : (serial : ℕ) → (heard ≡ Some serial → ⊥) → answer_of s.queries serial ≡ None → answer_of s'.queries serial ≡ None
  pub ended : (t : ℕ) → list_any (λ n. n == t) s.ended ≡ true → list_any (λ n. n == t) s'.ended ≡ true

calm-same : (heard : Option ℕ) (s : State) → Calm heard s s
calm-same heard s = record { answers = λ serial other none. none; ended = λ t is. is }

calm-if : (heard : Option ℕ) (s : State) (b : Bool) (x y : Applied) → Calm heard s x.state → Calm heard s y.state → Calm heard s (if b then x else y).state
calm-if heard s true x y h k = h
calm-if heard s false x y h k = k

calm-policy : {R : Type 0} (heard : Option ℕ) (s : State) (reply : R → Reply) (o : Option (Policy × R)) → Calm heard s (on_policy s reply o).state
calm-policy heard s reply None = calm-same heard s
calm-policy heard s reply (Some done) = record { answers = λ serial other none. none; ended = λ t is. is }

-- what became of a query
abbrev pub answer_at : Option Standing → Option Answered
answer_at o = option_and_then (λ (s : Standing). s.answer) o

get-push : (xs : List Standing) (new : Standing) (n : ℕ) → new.answer ≡ None → answer_at (slice_get xs n) ≡ None → answer_at (slice_get (xs ++ new ∷ []) n) ≡ None
get-push [] new zero none h = none
get-push [] new (suc n) none h = refl
get-push (x ∷ xs) new zero none h = h
get-push (x ∷ xs) new (suc n) none h = get-push xs new n none h

numbered-push : (xs : List Standing) (new : Standing) (serial : ℕ) → new.answer ≡ None → answer_at (numbered xs serial) ≡ None → answer_at (numbered (xs ++ new ∷ []) serial) ≡ None
numbered-push xs new zero none h = h
numbered-push xs new (suc n) none h = get-push xs new n none h

get-changed-other : {A : Type 0} (f : A → A) (xs : List A) (k n : ℕ) → (n ≡ k → ⊥) → slice_get (changed_at k f xs) n ≡ slice_get xs n
get-changed-other f [] k n other = refl
get-changed-other f (x ∷ xs) zero zero other = absurd (other refl)
get-changed-other f (x ∷ xs) zero (suc n) other = refl
get-changed-other f (x ∷ xs) (suc k) zero other = refl
get-changed-other f (x ∷ xs) (suc k) (suc n) other = get-changed-other f xs k n (λ e. other (ap suc e))

calm-ask : (s : State) (line : Text) (retry : ℕ) (o : Option Text) → Calm None s (option_map_or (λ name. on_queries s Reply.Ask (ask s.queries name line retry)) o (unfit s)).state
unfolding ask answer_of
calm-ask s line retry None = calm-same None s
calm-ask s line retry (Some name) = by_desk s.queries.attached
  where
    new : Standing
    new = record { query = record { serial = suc (length s.queries.all); retry = retry; domain = name; line = line }; answer = None }

    by_desk : (b : Bool) → Calm None s (on_queries s Reply.Ask (if not b then (s.queries, Held.Nobody) else (record s.queries { all = s.queries.all ++ new ∷ [] }, Held.Serial (suc (length s.queries.all))))).state
    by_desk false = calm-same None s
    by_desk true = record { answers = λ serial other none. numbered-push s.queries.all new serial refl none; ended = λ t is. is }

calm-answer : (s : State) (serial code : ℕ) → Calm (Some serial) s (on_queries s Reply.Answer (answer s.queries serial code)).state
unfolding answer answer_of
calm-answer s serial code = by_fault (answer_fault (numbered s.queries.all serial) code)
  where
    given : (serial : ℕ) → Calm (Some serial) s (on_queries s Reply.Answer ((let pair : Queries × Option AnswerFault = (with_answer s.queries serial (answer_coded code), None) in pair))).state
    given zero = record { answers = λ k other none. none; ended = λ t is. is }
    given (suc n) = record { answers = answers; ended = λ t is. is }
      where
        answers : (k : ℕ) → (Some (suc n) ≡ Some k → ⊥) → answer_at (numbered s.queries.all k) ≡ None → answer_at (numbered (changed_at n (λ (x : Standing). record x { answer = answer_coded code }) s.queries.all) k) ≡ None
        answers zero other none = refl
        answers (suc m) other none = rw (get-changed-other (λ (x : Standing). record x { answer = answer_coded code }) s.queries.all n m (λ e. other (ap (λ z. Some (suc z)) (sym e)))) none

    by_fault : (o : Option AnswerFault) → Calm (Some serial) s (on_queries s Reply.Answer (option_map_or (λ fault. (let pair : Queries × Option AnswerFault = (s.queries, Some fault) in pair)) o (with_answer s.queries serial (answer_coded code), None))).state
    by_fault None = given serial
    by_fault (Some fault) = record { answers = λ k other none. none; ended = λ t is. is }

put-keeps : (n t : ℕ) (ms : List ℕ) → list_any (λ m. m == t) ms ≡ true → list_any (λ m. m == t) (put_member n ms) ≡ true
put-keeps n t [] is = absurd cc
put-keeps n t (m ∷ ms) is = by_equal (m == n) (put-keeps n t ms)
  where
    or_true : (b c : Bool) → c ≡ true → (b || c) ≡ true
    or_true true c h = refl
    or_true false c h = h

    inner : (b : Bool) → (list_any (λ m. m == t) ms ≡ true → list_any (λ m. m == t) (put_member n ms) ≡ true) → (b || list_any (λ m. m == t) ms) ≡ true → (b || list_any (λ m. m == t) (put_member n ms)) ≡ true
    inner true ih h = refl
    inner false ih h = ih h

    by_less : (b : Bool) → (list_any (λ m. m == t) ms ≡ true → list_any (λ m. m == t) (put_member n ms) ≡ true) → list_any (λ m. m == t) (if b then n ∷ m ∷ ms else m ∷ put_member n ms) ≡ true
    by_less true ih = or_true (n == t) ((m == t) || list_any (λ m. m == t) ms) is
    by_less false ih = inner (m == t) ih is

    by_equal : (b : Bool) → (list_any (λ m. m == t) ms ≡ true → list_any (λ m. m == t) (put_member n ms) ≡ true) → list_any (λ m. m == t) (if b then m ∷ ms else if nat_lt n m then n ∷ m ∷ ms else m ∷ put_member n ms) ≡ true
    by_equal true ih = is
    by_equal false ih = by_less (nat_lt n m) ih

-- any step but a Detach
step-calm : (g : Grammar) (s : State) (step : Step) → Stays step → Calm (heard_by step) s (apply g s step).state
unfolding apply edit_step attach answer_of
step-calm g s (Step.Learn d entry) stays = calm-if None s (fits_entry g entry) _ _ (calm-policy None s Reply.Learn (learn s.policy d entry)) (calm-same None s)
step-calm g s (Step.Make d name) stays = calm-if None s (fits_name g s d name) _ _ (calm-policy None s Reply.Make (make s.policy d name)) (calm-same None s)
step-calm g s (Step.Fail d) stays = calm-policy None s Reply.Fail (fail s.policy d)
step-calm g s (Step.Ask d retry line) stays = calm-ask s line retry (in_domain s.policy d (λ domain profile. domain.name))
step-calm g s (Step.Answer serial code) stays = calm-answer s serial code
step-calm g s Step.Attach stays = record { answers = λ serial other none. none; ended = λ t is. is }
step-calm g s Step.Detach stays = absurd stays
step-calm g s (Step.Edit zero file line) stays = calm-same None s
step-calm g s (Step.Edit (suc e) file line) stays = by_editor (slice_get s.editors e)
  where
    by_editor : (o : Option Editor) → Calm None s (option_map_or (λ editor. edit_step g s e file line editor (unwrap_or (slice_get s.cursors e) None)) o (unfit s)).state
    by_editor None = calm-same None s
    by_editor (Some editor) = calm-if None s (not (is_manager s.policy editor)) _ _ (calm-same None s) (record { answers = λ serial other none. none; ended = λ t is. is })
step-calm g s (Step.End n) stays = calm-if None s (nat_lt 0 n && nat_le n s.trees) _ _ (record { answers = λ serial other none. none; ended = λ t is. put-keeps n t s.ended is }) (calm-same None s)

-- Steps at a player

settled-is : (g : Grammar) (p : Player) (step : Step) (done : Settled) → settle g p step ≡ Some done → (done.player.state ≡ (apply g p.state step).state) × (done.player.ways ≡ p.ways)
unfolding settle
settled-is g p step done e =
    let made = some-map _ (apply g p.state step).reply done e in (ap (λ (x : Settled). x.player.state) (sym made.2), ap (λ (x : Settled). x.player.ways) (sym made.2))

settle-there : (g : Grammar) (p : Player) (step : Step) → IsSome (apply g p.state step).reply → settle g p step ≡ None → ⊥
unfolding settle
settle-there g p step fits none = none-some (apply g p.state step).reply (map-none _ (apply g p.state step).reply none) fits

judged-none : {A : Type 0} (look : ℕ → Option Verdict) (made : ℕ → Verdict → A) (o : Option ℕ) → IsSome (option_and_then look o) → option_and_then (λ d. option_map (made d) (look d)) o ≡ None → ⊥
judged-none look made None judged none = absurd cc
judged-none look made (Some d) judged none = none-some (look d) (map-none (made d) (look d) none) judged

look-there : (g : Grammar) (p : Player) (now : Situation) (request : Request) (retry : ℕ) (looked : List Look) → IsJudged g p.state now request → look_at g p now request retry looked ≡ None → ⊥
unfolding look_at
look-there g p now request retry looked judged none = judged-none (λ d. verdict g.is_path p.state.policy p.state.queries.attached d now.process request) _ now.domain judged none

-- A tree that can't move

end-fits : (g : Grammar) (s : State) (t : ℕ) → suc t ≤ s.trees → IsSome (apply g s (Step.End (suc t))).reply
unfolding apply
end-fits g s t within = rw (lt-ltb 0 (suc t) (omega arith), le-leb (suc t) s.trees within) refl

-- what others have left of a player to tree t, of which the supervisor has answered at most the
-- query of another serial
pub record Leaves (heard : Option ℕ) (t : ℕ) (p q : Player) : Type 0 where
  pub calm : Calm heard p.state q.state
  pub way : slice_get q.ways t ≡ slice_get p.ways t

module _ (g : Grammar) (p q : Player) (desk : Bool) (t : ℕ) (heard : Option ℕ) (can : CanGoOn g p) (leaves : Leaves heard t p q) where
  end-still : suc t ≤ p.state.trees → end_tree g p desk t ≡ None → end_tree g q desk t ≡ None
  unfolding end_tree
  end-still within none = by_desk desk none
    where
      by_over : (b : Bool) → list_any (λ ended. ended == suc t) p.state.ended ≡ b → (if b then None else option_map (λ (s : Settled). s.player) (settle g p (Step.End (suc t)))) ≡ None
          → (if list_any (λ ended. ended == suc t) q.state.ended then None else option_map (λ (s : Settled). s.player) (settle g q (Step.End (suc t)))) ≡ None
      by_over true over none = rw (leaves.calm.ended (suc t) over) refl
      by_over false over none = absurd (settle-there g p (Step.End (suc t)) (end-fits g p.state t within) (map-none (λ (s : Settled). s.player) (settle g p (Step.End (suc t))) none))

      by_desk : (d : Bool) → (if not d || list_any (λ ended. ended == suc t) p.state.ended then None else option_map (λ (s : Settled). s.player) (settle g p (Step.End (suc t)))) ≡ None
          → (if not d || list_any (λ ended. ended == suc t) q.state.ended then None else option_map (λ (s : Settled). s.player) (settle g q (Step.End (suc t)))) ≡ None
      by_desk false none = refl
      by_desk true none = by_over (list_any (λ ended. ended == suc t) p.state.ended) refl none

  first-still : (way : Way) (at : Situations) (items : List Item) → suc t ≤ p.state.trees → NextIsJudged g p.state at items → first_look g p desk t way (at, items) ≡ None → first_look g q desk t way (at, items) ≡ None
  unfolding first_look
  first-still way at [] within judged none = end-still within none
  first-still way at (Item.Ids pid ids ∷ items) within judged none = end-still within none
  first-still way at (Item.Fork pid child ∷ items) within judged none = end-still within none
  first-still way at (Item.Do pid request ∷ items) within judged none = absurd (look-there g p (at pid) request 0 [] judged.1 (map-none _ (look_at g p (at pid) request 0 []) none))

  stage-still : (way : Way) (b : InProgress) (stage : Stage) → StageFits g p.state b stage → ((serial : ℕ) → heard ≡ Some serial → serial_of stage ≡ Some serial → ⊥) → stage_event g p t way b stage ≡ None → stage_event g q t way b stage ≡ None
  unfolding stage_event
  stage-still way b (Stage.Owing []) fits unheard none = refl
  stage-still way b (Stage.Owing (step ∷ rest)) fits unheard none = absurd (settle-there g p step fits (map-none _ (settle g p step) none))
  stage-still way b (Stage.Waiting serial) fits unheard none = rw (leaves.calm.answers serial (λ e. unheard serial e refl) (map-none _ (answer_of p.state.queries serial) none)) refl
  stage-still way b Stage.Looking fits unheard none = absurd (look-there g p b.now b.request (suc b.retry) (b.looked ++ b.look ∷ []) fits (map-none _ (look_at g p b.now b.request (suc b.retry) (b.looked ++ b.look ∷ [])) none))

  -- the serial of the query whose answer tree t waits for
  abbrev pub awaited_at : Option Way → Option ℕ
  awaited_at o = option_and_then (λ (way : Way). option_and_then (λ (b : InProgress). serial_of b.stage) way.begun) o

  pub stays-still : ((serial : ℕ) → heard ≡ Some serial → awaited_at (slice_get p.ways t) ≡ Some serial → ⊥) → tree_event g p desk (suc t) ≡ None → tree_event g q desk (suc t) ≡ None
  unfolding tree_event first_look stage_event
  stays-still unheard none = by_way (slice_get p.ways t) refl
    where
      by_way : (o : Option Way) → slice_get p.ways t ≡ o → option_and_then (λ (way : Way). option_map_or (λ b. stage_event g q t way b b.stage) way.begun (first_look g q desk t way (passed g way.at way.items))) (slice_get q.ways t) ≡ None
      by_way None at = rw (leaves.way, at) refl
      by_way (Some way) at = rw (leaves.way, at) (by_begun way.begun refl (rw at at none))
        where
          needs : Needs g p.state way
          needs = can.ways t way at

          within : suc t ≤ p.state.trees
          within = let lt : t < length p.ways = slice_get_within p.ways t way at in let same : length p.ways ≡ p.state.trees = can.trees in omega arith

          by_begun : (o : Option InProgress) → way.begun ≡ o → option_map_or (λ b. stage_event g p t way b b.stage) way.begun (first_look g p desk t way (passed g way.at way.items)) ≡ None
              → option_map_or (λ b. stage_event g q t way b b.stage) way.begun (first_look g q desk t way (passed g way.at way.items)) ≡ None
          by_begun None is h = rw is (first-still way (passed g way.at way.items).0 (passed g way.at way.items).1 within (rw is at needs.fits) (rw is at h))
          by_begun (Some b) is h = rw is (stage-still way b b.stage (let fits : TreeFits g p.state way (Some b) = rw is at needs.fits in fits.1) (λ serial heard waits. unheard serial heard (rw (at, is) waits)) (rw is at h))

-- What an event leaves to the others

-- a step of a process's own
abbrev pub IsOwnStep : Step → Type 0
IsOwnStep (Step.Learn d entry) = Unit {0}
IsOwnStep (Step.Make d name) = Unit {0}
IsOwnStep (Step.Fail d) = Unit {0}
IsOwnStep (Step.Ask d retry line) = Unit {0}
IsOwnStep _ = ⊥

own-calm : (g : Grammar) (s : State) (step : Step) → IsOwnStep step → Calm None s (apply g s step).state
own-calm g s (Step.Learn d entry) own = step-calm g s (Step.Learn d entry) tt
own-calm g s (Step.Make d name) own = step-calm g s (Step.Make d name) tt
own-calm g s (Step.Fail d) own = step-calm g s (Step.Fail d) tt
own-calm g s (Step.Ask d retry line) own = step-calm g s (Step.Ask d retry line) tt
own-calm g s (Step.Answer serial code) own = absurd own
own-calm g s Step.Attach own = absurd own
own-calm g s Step.Detach own = absurd own
own-calm g s (Step.Edit e file line) own = absurd own
own-calm g s (Step.End t) own = absurd own

-- a take owes own steps alone
abbrev pub OwesOwn : Stage → Type 0
OwesOwn (Stage.Owing steps) = AllByRecursion IsOwnStep steps
OwesOwn (Stage.Waiting serial) = Unit {0}
OwesOwn Stage.Looking = Unit {0}

abbrev pub BegunOwn : Option InProgress → Type 0
BegunOwn None = Unit {0}
BegunOwn (Some b) = OwesOwn b.stage

abbrev pub WaysOwn : List Way → Type 0
WaysOwn ways = AllByRecursion (λ (way : Way). BegunOwn way.begun) ways

line-own : (g : Grammar) (d retry : ℕ) (v : Verdict) → AllByRecursion IsOwnStep (steps_of_line g d retry v)
line-own g d retry v = go v.reason v.line
  where
    go : (reason : Reason) (line : Option Entry) → AllByRecursion IsOwnStep (steps_of_line g d retry (record v { reason = reason; line = line }))
    go Reason.Learn None = tt
    go Reason.Learn (Some line) = (tt, tt)
    go Reason.Ask None = tt
    go Reason.Ask (Some line) = (tt, tt)
    go (Reason.Entry place) line = tt
    go Reason.Disabled line = tt
    go Reason.Permissive line = tt
    go Reason.Quota line = tt
    go Reason.NoEntry line = tt
    go Reason.NotReady line = tt
    go Reason.NoManual line = tt

move-own : (d : ℕ) (v : Verdict) → AllByRecursion IsOwnStep (steps_of_move d v)
move-own d v = go v.step v.target
  where
    go : (step : Move) (target : Option DomainName) → AllByRecursion IsOwnStep (steps_of_move d (record v { step = step; target = target }))
    go Move.Stay target = tt
    go (Move.Enter n) target = tt
    go Move.Make None = tt
    go Move.Make (Some name) = (tt, tt)
    go Move.Fail target = (tt, tt)

owed-own : (g : Grammar) (d retry : ℕ) (v : Verdict) (b : Bool) → AllByRecursion IsOwnStep (steps_of_line g d retry v ++ (if b then steps_of_move d v else []))
owed-own g d retry v true = All-both IsOwnStep (steps_of_line g d retry v) (steps_of_move d v) (line-own g d retry v) (move-own d v)
owed-own g d retry v false = All-both IsOwnStep (steps_of_line g d retry v) [] (line-own g d retry v) tt

look-own : (g : Grammar) (p : Player) (now : Situation) (request : Request) (retry : ℕ) (looked : List Look) (b : InProgress) → look_at g p now request retry looked ≡ Some b → OwesOwn b.stage
unfolding look_at
look-own g p now request retry looked b is = by_domain now.domain _ (λ d v. owed-own g d retry v (is_granting v.reason)) is
  where
    by_domain : (o : Option ℕ) (made : ℕ → Verdict → InProgress) → ((d : ℕ) (v : Verdict) → OwesOwn (made d v).stage) → option_and_then (λ d. option_map (made d) (verdict g.is_path p.state.policy p.state.queries.attached d now.process request)) o ≡ Some b → OwesOwn b.stage
    by_domain None made own is = absurd cc
    by_domain (Some d) made own is = let there = some-map (made d) (verdict g.is_path p.state.policy p.state.queries.attached d now.process request) b is in subst (λ (x : InProgress). OwesOwn x.stage) there.2 (own d there.0)

going-own : (g : Grammar) (way : Way) (b : InProgress) → OwesOwn b.stage → BegunOwn (going_on g way b).begun
going-own g way b own = go b.stage refl
  where
    go : (stage : Stage) → b.stage ≡ stage → BegunOwn (going_on g way b).begun
    go (Stage.Owing []) e = rw e tt
    go (Stage.Owing (step ∷ rest)) e = rw e (subst OwesOwn e own)
    go (Stage.Waiting serial) e = rw e tt
    go Stage.Looking e = rw e tt

step-own : (g : Grammar) (b : InProgress) (rest : List Step) (number : ℕ) (reply : Reply) → AllByRecursion IsOwnStep rest → OwesOwn (after_step g b rest number reply).stage
step-own g b rest number (Reply.Ask (Held.Serial serial)) own = tt
step-own g b rest number (Reply.Ask Held.Nobody) own = tt
step-own g b rest number (Reply.Make made) own = own
step-own g b rest number (Reply.Learn x) own = own
step-own g b rest number (Reply.Fail x) own = own
step-own g b rest number (Reply.Answer x) own = own
step-own g b rest number (Reply.Attach x) own = own
step-own g b rest number (Reply.Detach x) own = own
step-own g b rest number (Reply.Edit x) own = own
step-own g b rest number Reply.End own = own

answer-own : (g : Grammar) (b : InProgress) (version : ℕ) (given : Answered) → OwesOwn (after_answer g b version given).stage
answer-own g b version Answered.Yes = move-own b.before b.verdict
answer-own g b version Answered.Retry = tt
answer-own g b version Answered.No = tt
answer-own g b version Answered.Detached = tt

-- what an event of tree k, or of none, leaves
pub record Goes (moved : ℕ → Bool) (heard : Option ℕ) (p q : Player) : Type 0 where
  pub calm : Calm heard p.state q.state
  pub ways : (t : ℕ) → moved t ≡ false → slice_get q.ways t ≡ slice_get p.ways t
  pub own : WaysOwn q.ways

module _ (g : Grammar) (p : Player) (desk : Bool) (k : ℕ) (own : WaysOwn p.ways) where
  other : (t : ℕ) → (t == k) ≡ false → t ≡ k → ⊥
  other t not e = absurd (true≢false (sym (eq-eqb t t refl) ∙ ap (λ n. t == n) e ∙ not))

  -- a tree that goes on
  on-goes : (q : Player) (way : Way) → Calm None p.state q.state → q.ways ≡ p.ways → BegunOwn way.begun → Goes (λ t. t == k) None p (on_way g q k way)
  on-goes q way calm same begun =
      record {
        calm = record { answers = calm.answers; ended = calm.ended };
        ways = λ t not. get-set-other q.ways k t way (other t not) ∙ ap (λ (ways : List Way). slice_get ways t) same;
        own = rw same (All-set (λ (w : Way). BegunOwn w.begun) p.ways k way own begun);
      }

  ended-goes : (next : Player) → end_tree g p desk k ≡ Some next → Goes (λ t. t == k) None p next
  unfolding end_tree
  ended-goes next is = by_rest (not desk || list_any (λ ended. ended == suc k) p.state.ended) is
    where
      by_rest : (b : Bool) → (if b then None else option_map (λ (s : Settled). s.player) (settle g p (Step.End (suc k)))) ≡ Some next → Goes (λ t. t == k) None p next
      by_rest true is = absurd cc
      by_rest false is =
          let made = some-map (λ (s : Settled). s.player) (settle g p (Step.End (suc k))) next is in
          let done = settled-is g p (Step.End (suc k)) made.0 made.1 in
          subst (Goes (λ t. t == k) None p) made.2
          (record {
            calm = rw done.0 (step-calm g p.state (Step.End (suc k)) tt);
            ways = λ t not. ap (λ (ways : List Way). slice_get ways t) done.1;
            own = rw done.1 own;
          })

  first-goes : (way : Way) (at : Situations) (items : List Item) (next : Player) → first_look g p desk k way (at, items) ≡ Some next → Goes (λ t. t == k) None p next
  unfolding first_look
  first-goes way at [] next is = ended-goes next is
  first-goes way at (Item.Ids pid ids ∷ items) next is = ended-goes next is
  first-goes way at (Item.Fork pid child ∷ items) next is = ended-goes next is
  first-goes way at (Item.Do pid request ∷ items) next is =
      let made = some-map _ (look_at g p (at pid) request 0 []) next is in
      subst (Goes (λ t. t == k) None p) made.2
      (on-goes p (going_on g (record way { at = at; items = items }) made.0) (calm-same None p.state) refl (going-own g (record way { at = at; items = items }) made.0 (look-own g p (at pid) request 0 [] made.0 made.1)))

  stage-goes : (way : Way) (b : InProgress) (stage : Stage) (next : Player) → OwesOwn stage → stage_event g p k way b stage ≡ Some next → Goes (λ t. t == k) None p next
  unfolding stage_event
  stage-goes way b (Stage.Owing []) next owes is = absurd cc
  stage-goes way b (Stage.Owing (step ∷ rest)) next owes is =
      let made = some-map _ (settle g p step) next is in
      let done = settled-is g p step made.0 made.1 in
      subst (Goes (λ t. t == k) None p) made.2
      (on-goes made.0.player (going_on g way (after_step g b rest made.0.number made.0.reply)) (rw done.0 (own-calm g p.state step owes.0)) done.1 (going-own g way (after_step g b rest made.0.number made.0.reply) (step-own g b rest made.0.number made.0.reply owes.1)))
  stage-goes way b (Stage.Waiting serial) next owes is =
      let made = some-map _ (answer_of p.state.queries serial) next is in
      subst (Goes (λ t. t == k) None p) made.2
      (on-goes p (going_on g way (after_answer g b (length p.steps) made.0)) (calm-same None p.state) refl (going-own g way (after_answer g b (length p.steps) made.0) (answer-own g b (length p.steps) made.0)))
  stage-goes way b Stage.Looking next owes is =
      let made = some-map _ (look_at g p b.now b.request (suc b.retry) (b.looked ++ b.look ∷ [])) next is in
      subst (Goes (λ t. t == k) None p) made.2
      (on-goes p (going_on g way made.0) (calm-same None p.state) refl (going-own g way made.0 (look-own g p b.now b.request (suc b.retry) (b.looked ++ b.look ∷ []) made.0 made.1)))

  pub tree-goes : (next : Player) → tree_event g p desk (suc k) ≡ Some next → Goes (λ t. t == k) None p next
  unfolding tree_event first_look stage_event
  tree-goes next is = by_way (slice_get p.ways k) refl is
    where
      by_begun : (way : Way) (o : Option InProgress) → BegunOwn o → option_map_or (λ b. stage_event g p k way b b.stage) o (first_look g p desk k way (passed g way.at way.items)) ≡ Some next → Goes (λ t. t == k) None p next
      by_begun way None begun is = first-goes way (passed g way.at way.items).0 (passed g way.at way.items).1 next is
      by_begun way (Some b) begun is = stage-goes way b b.stage next begun is

      by_way : (o : Option Way) → slice_get p.ways k ≡ o → option_and_then (λ (way : Way). option_map_or (λ b. stage_event g p k way b b.stage) way.begun (first_look g p desk k way (passed g way.at way.items))) o ≡ Some next → Goes (λ t. t == k) None p next
      by_way None at is = absurd cc
      by_way (Some way) at is = by_begun way way.begun (All-get (λ (w : Way). BegunOwn w.begun) p.ways k way own at) is

-- an editor's line, and a step of the supervisor, leave the trees
settled-goes : (g : Grammar) (p : Player) (step : Step) (done : Settled) (next : Player) → WaysOwn p.ways → Stays step → settle g p step ≡ Some done → next.state ≡ done.player.state → next.ways ≡ done.player.ways → Goes (λ t. false) (heard_by step) p next
settled-goes g p step done next own stays is state ways =
    let made = settled-is g p step done is in
    record {
      calm = rw (state, made.0) (step-calm g p.state step stays);
      ways = λ t not. ap (λ (w : List Way). slice_get w t) (ways ∙ made.1);
      own = rw (ways, made.1) own;
    }

pub editor-goes : (g : Grammar) (p : Player) (e : ℕ) (next : Player) → WaysOwn p.ways → editor_event g p e ≡ Some next → Goes (λ t. false) None p next
unfolding line_event
editor-goes g p zero next own is = absurd cc
editor-goes g p (suc e) next own is = by_lines (slice_get p.scripts e) is
  where
    by_lines : (o : Option (List (FileKind × Text))) → option_and_then (line_event g p e) o ≡ Some next → Goes (λ t. false) None p next
    by_lines None is = absurd cc
    by_lines (Some []) is = absurd cc
    by_lines (Some (line ∷ lines)) is =
        let made = some-map _ (settle g p (Step.Edit (suc e) line.0 line.1)) next is in
        settled-goes g p (Step.Edit (suc e) line.0 line.1) made.0 next own tt made.1 (ap (λ (q : Player). q.state) (sym made.2)) (ap (λ (q : Player). q.ways) (sym made.2))

-- the supervisor's
when-is : (b : Bool) (x y : Step) → when b (Some x) ≡ Some y → x ≡ y
when-is true x y e = let same : x ≡ y = cc in same
when-is false x y e = absurd cc

-- none of these
pub nothing-is : (next : Player) (P : Type 0) → (let none : Option Player = None in none ≡ Some next) → P
nothing-is next P is = absurd cc

-- the query that a turn answers
abbrev pub answered_by : Turn → Option ℕ
answered_by (Turn.Answer serial code) = Some serial
answered_by _ = None

abbrev pub StaysOn : Turn → Type 0
StaysOn Turn.Detach = ⊥
StaysOn _ = Unit {0}

supervisor-made : (g : Grammar) (p : Player) (desk : Bool) (who : Turn) (next : Player) → option_and_then (λ step. option_map (λ (s : Settled). s.player) (settle g p step)) (supervisor_step g p desk who) ≡ Some next
    → (step : Step) × (done : Settled) × (supervisor_step g p desk who ≡ Some step) × (settle g p step ≡ Some done) × (next ≡ done.player)
supervisor-made g p desk who next is = go (supervisor_step g p desk who) refl is
  where
    go : (o : Option Step) → supervisor_step g p desk who ≡ o → option_and_then (λ step. option_map (λ (s : Settled). s.player) (settle g p step)) o ≡ Some next
        → (step : Step) × (done : Settled) × (supervisor_step g p desk who ≡ Some step) × (settle g p step ≡ Some done) × (next ≡ done.player)
    go None at is = absurd cc
    go (Some step) at is = let made = some-map (λ (s : Settled). s.player) (settle g p step) next is in (step, made.0, at, made.1, sym made.2)

step-of : (g : Grammar) (p : Player) (desk : Bool) (who : Turn) (step : Step) → StaysOn who → supervisor_step g p desk who ≡ Some step → Stays step × (heard_by step ≡ answered_by who)
unfolding supervisor_step
step-of g p desk Turn.Attach step stays is = subst (λ (s : Step). Stays s × (heard_by s ≡ None)) (when-is (desk && not (has_step g is_attach p)) Step.Attach step is) (tt, refl)
step-of g p desk (Turn.Answer serial code) step stays is = subst (λ (s : Step). Stays s × (heard_by s ≡ Some serial)) (when-is (p.state.queries.attached && is_first g p serial) (Step.Answer serial code) step is) (tt, refl)
step-of g p desk Turn.Detach step stays is = absurd stays
step-of g p desk (Turn.Tree t) step stays is = absurd cc
step-of g p desk (Turn.Editor e) step stays is = absurd cc
step-of g p desk Turn.Desk step stays is = absurd cc

pub supervisor-goes : (g : Grammar) (p : Player) (desk : Bool) (who : Turn) (next : Player) → WaysOwn p.ways → StaysOn who → option_and_then (λ step. option_map (λ (s : Settled). s.player) (settle g p step)) (supervisor_step g p desk who) ≡ Some next → Goes (λ t. false) (answered_by who) p next
supervisor-goes g p desk who next own stays is =
    let (step, done, made, settled, same) = supervisor-made g p desk who next is in
    let kind = step-of g p desk who step stays made in
    subst (λ (heard : Option ℕ). Goes (λ t. false) heard p next) kind.1
    (settled-goes g p step done next own kind.0 settled (ap (λ (q : Player). q.state) same) (ap (λ (q : Player). q.ways) same))

supervisor-own : (g : Grammar) (p : Player) (desk : Bool) (who : Turn) (next : Player) → WaysOwn p.ways → option_and_then (λ step. option_map (λ (s : Settled). s.player) (settle g p step)) (supervisor_step g p desk who) ≡ Some next → WaysOwn next.ways
supervisor-own g p desk who next own is =
    let (step, done, made, settled, same) = supervisor-made g p desk who next is in
    subst WaysOwn (sym (settled-is g p step done settled).1 ∙ ap (λ (q : Player). q.ways) (sym same)) own

-- Turns

event-own : (scene : Scene) (p : Player) (who : Turn) (next : Player) → WaysOwn p.ways → event scene p who ≡ Some next → WaysOwn next.ways
unfolding event player_event tree_event
event-own scene p (Turn.Tree zero) next own is = nothing-is next (WaysOwn next.ways) is
event-own scene p (Turn.Tree (suc k)) next own is = (tree-goes scene.grammar p (is_some scene.book) k own next is).own
event-own scene p (Turn.Editor e) next own is = (editor-goes scene.grammar p e next own is).own
event-own scene p Turn.Desk next own is = by_book scene.book is
  where
    by_turn : (book : Book) (o : Option Turn) → option_and_then (player_event scene.grammar p true) o ≡ Some next → WaysOwn next.ways
    by_turn book None is = absurd cc
    by_turn book (Some (Turn.Tree zero)) is = nothing-is next (WaysOwn next.ways) is
    by_turn book (Some (Turn.Tree (suc k))) is = (tree-goes scene.grammar p true k own next is).own
    by_turn book (Some (Turn.Editor e)) is = (editor-goes scene.grammar p e next own is).own
    by_turn book (Some Turn.Desk) is = supervisor-own scene.grammar p true Turn.Desk next own is
    by_turn book (Some Turn.Attach) is = supervisor-own scene.grammar p true Turn.Attach next own is
    by_turn book (Some (Turn.Answer serial code)) is = supervisor-own scene.grammar p true (Turn.Answer serial code) next own is
    by_turn book (Some Turn.Detach) is = supervisor-own scene.grammar p true Turn.Detach next own is

    by_book : (o : Option Book) → option_and_then (λ book. option_and_then (player_event scene.grammar p true) (desk_turn scene.grammar p book)) o ≡ Some next → WaysOwn next.ways
    by_book None is = absurd cc
    by_book (Some book) is = by_turn book (desk_turn scene.grammar p book) is
event-own scene p Turn.Attach next own is = absurd cc
event-own scene p (Turn.Answer serial code) next own is = absurd cc
event-own scene p Turn.Detach next own is = absurd cc

turn-own : (scene : Scene) (p : Player) (who : Turn) → WaysOwn p.ways → WaysOwn (turn scene p who).ways
unfolding turn
turn-own scene p who own = go (event scene p who) refl
  where
    go : (o : Option Player) → event scene p who ≡ o → WaysOwn (unwrap_or o p).ways
    go None is = own
    go (Some next) is = event-own scene p who next own is

turns-own : (scene : Scene) (p : Player) (list : List Turn) → WaysOwn p.ways → WaysOwn (turns scene p list).ways
unfolding turns
turns-own scene p [] own = own
turns-own scene p (who ∷ list) own = turns-own scene (turn scene p who) list (turn-own scene p who own)

start-own : (scene : Scene) → WaysOwn (start_of scene).ways
start-own scene = go scene.trace
  where
    go : (trees : List Tree) → WaysOwn (map (λ (tree : Tree). (let way : Way = record { at = at_start scene.policy tree; items = tree.records; begun = None; takes = [] } in way)) trees)
    go [] = tt
    go (tree ∷ trees) = (tt, go trees)

-- a player that some turns have led to
pub record Led (scene : Scene) (p : Player) : Type 0 where
  pub can : CanPlay scene
  pub schedule : List Turn
  pub led : p ≡ turns scene (start_of scene) schedule

pub led-own : (scene : Scene) (p : Player) → Led scene p → WaysOwn p.ways
led-own scene p h = subst (λ (q : Player). WaysOwn q.ways) (sym h.led) (turns-own scene (start_of scene) h.schedule (start-own scene))

pub led-can : (scene : Scene) (p : Player) → Led scene p → CanGoOn scene.grammar p
led-can scene p h = subst (CanGoOn scene.grammar) (sym h.led) (can-go-on scene h.schedule h.can)

pub led-turn : (scene : Scene) (p : Player) (who : Turn) → Led scene p → Led scene (turn scene p who)
unfolding turns
led-turn scene p who h = record { can = h.can; schedule = h.schedule ++ who ∷ []; led = ap (λ q. turn scene q who) h.led ∙ sym (turns-append scene (start_of scene) h.schedule (who ∷ [])) }
