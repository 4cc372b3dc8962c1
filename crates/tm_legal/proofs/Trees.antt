-- Each event of a tree keeps what a player keeps and leaves less to do; a tree without an event
-- waits for an answer, or is done.
use Rattle.std.proofs.Common.{◌≡◌, ◌≤◌, ◌<◌, ℕ, zero, suc, ◌+◌, ◌-◌, ◌*◌, List, [], ◌∷◌, ◌++◌, length, Bool, true, false, true≢false, refl, sym, ap, ◌∙◌, subst, arith, inl, inr, ◌⊎◌}
use Rattle.std.specs.Prelude.{Option, Some, None, slice_get, slice_set, if◌then◌else◌, ◌==◌, ◌||◌, not, IsSome, is_some, option_map, flat_map}
use Rattle.std.specs.List.{AllByRecursion, list_all}
use Rattle.std.proofs.lemmas.Bool.{and_parts, eq-eqb, ne_eqb}
use Rattle.std.proofs.lemmas.Option.{slice_get_within}
use Rattle.tm_rules.specs.Types.{Item, Look, Reply, Request, Step, Take, Tree, Verdict}
use Rattle.tm_rules.specs.Prelude.{IsGrammar, first_query, is_request, item_is_request, put_member}
use Rattle.tm_legal.specs.Prelude.{Applied, Case, History, InProgress, IsLegalTake, LookDone, Player, Scene, Settled, Settles, Situation, Situations, Stage, State, ToAsk, Way, apply, desk_left, do_pids, end_tree, first_look, going_on, is_attach, is_end, left_with, lines_left, looks_left, on_way, own_numbers, places, play_left, retries_of, seen, settle, stage_left, steps_left, subject_of, times, unanswered, way_left, ways_left}
use Rattle.tm_legal.proofs.Laws.{times-append}
use Rattle.tm_legal.proofs.Histories.{places-push}
use Rattle.tm_legal.proofs.Walks.{All-map, is_over, EndsAs, WayHolds, WayHolds-onward, WayHolds-later, Stands}
use Rattle.tm_legal.proofs.Takes.{All-flat, owed_by, owed-few, Running, take-goes, begun_with, look-holds}
use Rattle.tm_legal.proofs.Onward.{EndDone, end-done, over-put, length-put}
use Rattle.tm_legal.proofs.Counts.{EachWay, way-at, way-set, begun_own-is, way_own, count_own, going-own, counted-other}
use Rattle.tm_legal.proofs.Desks.{Quiet}
use Rattle.tm_legal.proofs.Scripts.{scripts-other, over_count, over_count-le, counted-put}
use Rattle.tm_legal.proofs.Players.{PlayHolds, Moved, after_step_of, settle-is, base-quiet, came, came-quiet, ways_left-set, going-left, ready-left, less-first, WayOf, replaced}

-- nothing is left to do in that tree, and where a supervisor stands it has ended
pub record Idle (scene : Scene) (player : Player) (n : ℕ) (way : Way) : Type 0 where
  pub idle : way.begun ≡ None
  pub empty : do_pids way.items ≡ []
  pub over : is_some scene.book ≡ true → is_over (suc n) player.state.ended ≡ true

-- no event: the tree is idle, or some query is unanswered
abbrev pub Still : Scene → Player → ℕ → Way → Option Player → Type 0
Still scene player n way o = (o ≡ None) × (Idle scene player n way ⊎ IsSome (first_query player.state.queries))

abbrev pub TreeMoves : Scene → Player → ℕ → Way → Option Player → Type 0
TreeMoves scene player n way o = Moved scene player o ⊎ Still scene player n way o

-- Less to do

pub less-way : (scene : Scene) (player : Player) (n : ℕ) (way new : Way) → slice_get player.ways n ≡ Some way → way_left (retries_of scene.book) new < way_left (retries_of scene.book) way → play_left scene (on_way scene.grammar player n new) < play_left scene player
unfolding left_with
less-way scene player n way new at less =
    let most : ℕ = retries_of scene.book in
    let set : ways_left most (slice_set player.ways n new) + way_left most way ≡ ways_left most player.ways + way_left most new = ways_left-set most player.ways n way new at in
    turned (ways_left most (slice_set player.ways n new)) (ways_left most player.ways) (way_left most way) (way_left most new) (lines_left player.scripts) (unanswered player.state.queries.all) (desk_left (came player.steps) player.state.queries.attached) (player.state.trees - length player.state.ended) set less
  where
    turned : (w' w a b l u d e : ℕ) → w' + a ≡ w + b → b < a → w' + l + u + d + e < w + l + u + d + e
    turned w' w a b l u d e set less = omega arith

pub less-step : (scene : Scene) (player : Player) (n : ℕ) (way new : Way) (step : Step) (reply : Reply) (more : ℕ) → slice_get player.ways n ≡ Some way → is_attach step ≡ false → (let s : State = (apply scene.grammar player.state step).state in s.queries.attached ≡ player.state.queries.attached → s.ended ≡ player.state.ended → s.trees ≡ player.state.trees → unanswered s.queries.all ≤ more + unanswered player.state.queries.all → way_left (retries_of scene.book) new + more < way_left (retries_of scene.book) way → play_left scene (on_way scene.grammar (after_step_of scene.grammar player step reply) n new) < play_left scene player)
unfolding left_with
less-step scene player n way new step reply more at quiet attached ended trees asked less =
    let most : ℕ = retries_of scene.book in
    let s : State = (apply scene.grammar player.state step).state in
    let set : ways_left most (slice_set player.ways n new) + way_left most way ≡ ways_left most player.ways + way_left most new = ways_left-set most player.ways n way new at in
    rw (came-quiet player.steps step reply quiet, attached, ended, trees)
    (turned (ways_left most (slice_set player.ways n new)) (ways_left most player.ways) (way_left most way) (way_left most new) (lines_left player.scripts) (unanswered player.state.queries.all) (unanswered s.queries.all) (desk_left (came player.steps) player.state.queries.attached) (player.state.trees - length player.state.ended) more set asked less)
  where
    turned : (w' w a b l u u' d e m : ℕ) → w' + a ≡ w + b → u' ≤ m + u → b + m < a → w' + l + u' + d + e < w + l + u + d + e
    turned w' w a b l u u' d e m set asked less = omega arith

-- the same way in its place
set-same : (ways : List Way) (n : ℕ) (way : Way) → slice_get ways n ≡ Some way → slice_set ways n way ≡ ways
set-same [] n way at = refl
set-same (w ∷ ways) zero way at = let same : w ≡ way = cc in rw same refl
set-same (w ∷ ways) (suc n) way at = ap (λ ws. w ∷ ws) (set-same ways n way at)

-- Takes that run

-- a tree with a request to come hasn't ended, nor one with a take that runs
open-do : (t : ℕ) (history : History) (done : List Case) (pid : ℕ) (request : Request) (items : List Item) (begun : Option InProgress) (x : Bool) → EndsAs t history done (Item.Do pid request ∷ items) begun x → (x ≡ false) × (places (is_end t) history ≡ [])
open-do t history done pid request items begun false h = (refl, h)
open-do t history done pid request items begun true (end, is, all, idle, empty) = absurd cc

open-take : (t : ℕ) (history : History) (done : List Case) (items : List Item) (b : InProgress) (x : Bool) → EndsAs t history done items (Some b) x → (x ≡ false) × (places (is_end t) history ≡ [])
open-take t history done items b false h = (refl, h)
open-take t history done items b true (end, is, all, idle, empty) = absurd cc

pub running-of : (scene : Scene) (history : History) (s : State) (t : ℕ) (tree : Tree) (way : Way) (b : InProgress) → WayHolds scene history s t tree (record way { begun = Some b }) → Running scene history s t tree way.at way.items way.takes b
running-of scene history s t tree way b h =
    let open_ = open-take t history h.done way.items b (is_over t s.ended) h.over in
    record {
      walked = h.walked;
      done = h.done;
      pid = h.begun.pid;
      cases = λ takes. rw h.begun.line at (h.cases takes);
      pids = rw h.begun.line at h.pids;
      agree = h.agree;
      requests = rw h.begun.line at h.requests;
      ended = h.ended;
      numbered_so = h.numbered_so;
      are_taken = h.taken;
      now = h.begun.now;
      before = h.begun.before;
      low = h.begun.low;
      rises = h.begun.rises;
      floor = h.begun.floor;
      not_over = open_.0;
      no_end = open_.1;
    }

-- the same take, further on
pub running-with : (scene : Scene) (history : History) (s : State) (t : ℕ) (tree : Tree) (at : Situations) (items : List Item) (takes : List Take) (b b' : InProgress) → b'.request ≡ b.request → b'.now ≡ b.now → b'.before ≡ b.before → b'.looked ≡ b.looked → b'.look.version ≡ b.look.version → Running scene history s t tree at items takes b → Running scene history s t tree at items takes b'
running-with scene history s t tree at items takes b b' request now before looked version h =
    record {
      walked = h.walked;
      done = h.done;
      pid = h.pid;
      cases = λ more. rw request (h.cases more);
      pids = h.pids;
      agree = h.agree;
      requests = rw request h.requests;
      ended = h.ended;
      numbered_so = h.numbered_so;
      are_taken = h.are_taken;
      now = now ∙ h.now;
      before = rw before h.before;
      low = h.low;
      rises = rw looked h.rises;
      floor = rw version h.floor;
      not_over = h.not_over;
      no_end = h.no_end;
    }

pub stands_now : (scene : Scene) (history : History) (s : State) (t : ℕ) (tree : Tree) (way : Way) → way.begun ≡ None → WayHolds scene history s t tree way → Stands scene history s t tree way.takes way.at way.items
stands_now scene history s t tree way idle h = rw idle at h

pub takes_now : (scene : Scene) (history : History) (s : State) (t : ℕ) (tree : Tree) (way : Way) (b : InProgress) → way.begun ≡ Some b → WayHolds scene history s t tree way → WayHolds scene history s t tree (record way { begun = Some b })
takes_now scene history s t tree way b is h = rw is at h

pub way_left-of : (most : ℕ) (way : Way) (b : InProgress) (stage : Stage) → way.begun ≡ Some b → b.stage ≡ stage → way_left most way ≡ (5 + 4 * most) * length (do_pids way.items) + stage_left most b.retry stage
way_left-of most way b stage is e = rw (is, e) refl

-- what a look owes comes to no more than it may
pub owed-left : (scene : Scene) (history : History) (s : State) (most : ℕ) (now : Situation) (player : Player) (request : Request) (retry : ℕ) (looked : List Look) (d : ℕ) (v : Verdict) → Settles scene history s.policy (begun_with scene player now request retry looked d v) (owed_by scene d retry v) ⊎ ToAsk scene (begun_with scene player now request retry looked d v) (owed_by scene d retry v) → (steps_left most retry (owed_by scene d retry v) ≤ 2) ⊎ (steps_left most retry (owed_by scene d retry v) ≡ looks_left most retry)
owed-left scene history s most now player request retry looked d v (inl settles) = inl (rw (ready-left scene.grammar s.policy most retry (owed_by scene d retry v) settles.ready) (owed-few scene d retry v))
owed-left scene history s most now player request retry looked d v (inr asks) = inr (ap (steps_left most retry) asks.is)

pub same_number : (a b : ℕ) → Some a ≡ Some b → a ≡ b
same_number a b e = cc

module _ (scene : Scene) (grammar : IsGrammar scene.grammar) (player : Player) (n : ℕ) (way : Way) (h : PlayHolds scene player) (at : slice_get player.ways n ≡ Some way) where
  t : WayOf scene player n way
  t = way-at (WayHolds scene player.steps player.state) 1 scene.trace player.ways n way h.ways at

  -- The first look

  pub do-moves : way.begun ≡ None → (desk : Bool) (now : Situations) (pid : ℕ) (request : Request) (items : List Item) → do_pids (Item.Do pid request ∷ items) ≡ do_pids way.items → (k : WayOf scene player n way) → Stands scene player.steps player.state k.number k.tree way.takes now (Item.Do pid request ∷ items) → TreeMoves scene player n way (first_look scene.grammar player desk n way (now, Item.Do pid request ∷ items))
  unfolding first_look
  do-moves idle desk now pid request items pids k standing =
      let a = standing.agree pid in
      let d : ℕ = a.number in
      let requests : list_all (item_is_request scene.grammar.is_path) (Item.Do pid request ∷ items) ≡ true = rw standing.begun at standing.requests in
      let is : is_request scene.grammar.is_path request ≡ true = (and_parts (is_request scene.grammar.is_path request) (list_all (item_is_request scene.grammar.is_path) items) requests).0 in
      let looks = look-holds scene player (now pid) request 0 [] d grammar h.base.sane a.numbered a.there is tt refl in
      let b : InProgress = begun_with scene player (now pid) request 0 [] d looks.verdict in
      let before : Way = record way { at = now; items = items } in
      let new : Way = going_on scene.grammar before b in
      let open_ = open-do k.number player.steps standing.done pid request items None (is_over k.number player.state.ended) standing.over in
      let running : Running scene player.steps player.state k.number k.tree now items way.takes b = record {
        walked = standing.walked;
        done = standing.done;
        pid = pid;
        cases = λ more. rw standing.begun at (standing.cases more);
        pids = rw standing.begun at standing.pids;
        agree = standing.agree;
        requests = requests;
        ended = standing.ended;
        numbered_so = standing.numbered_so;
        are_taken = standing.taken;
        now = refl;
        before = a.numbered;
        low = (standing.walked pid).floor;
        rises = refl;
        floor = a.floor;
        not_over = open_.0;
        no_end = open_.1;
      } in
      let most : ℕ = retries_of scene.book in
      let left : way_left most new ≡ (5 + 4 * most) * length (do_pids items) + steps_left most 0 (owed_by scene d 0 looks.verdict) = going-left scene.grammar most before b in
      let was : way_left most way ≡ (5 + 4 * most) * suc (length (do_pids items)) = first-left most idle pid items pids in
      let few : steps_left most 0 (owed_by scene d 0 looks.verdict) < 5 + 4 * most = few-steps most (steps_left most 0 (owed_by scene d 0 looks.verdict)) (owed-left scene player.steps player.state most (now pid) player request 0 [] d looks.verdict looks.stage.1) in
      let less : way_left most new < way_left most way = rw (left, was) (less-first (5 + 4 * most) (length (do_pids items)) (steps_left most 0 (owed_by scene d 0 looks.verdict)) few) in
      inl
      (record {
        next = on_way scene.grammar player n new;
        is = rw looks.is refl;
        holds = replaced scene player n way new h at k (take-goes scene player.steps player.state k.number k.tree before b running looks.stage (λ e. absurd cc))
            (λ c. going-own scene.grammar c before b ∙ rw (begun_own-is c b) (first-own c idle));
        less = less-way scene player n way new at less;
      })
    where
      first-left : (most : ℕ) → way.begun ≡ None → (pid : ℕ) (items : List Item) → pid ∷ do_pids items ≡ do_pids way.items → way_left most way ≡ (5 + 4 * most) * suc (length (do_pids items))
      first-left most idle pid items pids = rw (idle, sym pids) (plus-zero ((5 + 4 * most) * suc (length (do_pids items))))
        where
          plus-zero : (x : ℕ) → x + 0 ≡ x
          plus-zero x = omega arith

      few-steps : (most x : ℕ) → (x ≤ 2) ⊎ (x ≡ looks_left most 0) → x < 5 + 4 * most
      few-steps most x (inl few) = omega arith
      few-steps most x (inr is) = omega arith

      first-own : (c : ℕ) → way.begun ≡ None → times c (own_numbers way.takes) + (0 + 0) ≡ times c (way_own way)
      first-own c idle = rw (idle, times-append c (own_numbers way.takes) []) (omega arith)

  -- The end

  -- a tree that stands at its end
  ends-as : (k : WayOf scene player n way) → way.begun ≡ None → do_pids way.items ≡ [] → is_over k.number player.state.ended ≡ false → is_over k.number (put_member k.number player.state.ended) ≡ true → EndsAs k.number (player.steps ++ (Step.End k.number, Reply.End) ∷ []) k.holds.done way.items way.begun (is_over k.number (put_member k.number player.state.ended))
  ends-as k idle empty open_ over =
      rw over (
        suc (length player.steps),
        rw (places-push (is_end k.number) player.steps (Step.End k.number) Reply.End (eq-eqb k.number k.number refl), (rw open_ at k.holds.over)) refl,
        All-map (IsLegalTake scene player.steps) (λ (c : Case). AllByRecursion (λ version. version < suc (length player.steps)) (flat_map seen c.taken.looks)) k.holds.done (λ c done. below c.taken.looks (All-map (LookDone scene player.steps (subject_of c)) (λ (look : Look). AllByRecursion (λ version. version ≤ length player.steps) (seen look)) c.taken.looks (λ look d. d.sees) done.looks)) k.holds.ended,
        idle,
        empty,
      )
    where
      widen : (ns : List ℕ) → AllByRecursion (λ version. version ≤ length player.steps) ns → AllByRecursion (λ version. version < suc (length player.steps)) ns
      widen [] all = tt
      widen (m ∷ ns) all = (omega (arith, all.0), widen ns all.1)

      below : (looks : List Look) → AllByRecursion (λ (look : Look). AllByRecursion (λ version. version ≤ length player.steps) (seen look)) looks → AllByRecursion (λ version. version < suc (length player.steps)) (flat_map seen looks)
      below looks all = widen (flat_map seen looks) (All-flat (length player.steps) looks all)

  pub end-moves : way.begun ≡ None → (desk : Bool) → desk ≡ is_some scene.book → do_pids way.items ≡ [] → TreeMoves scene player n way (end_tree scene.grammar player desk n)
  unfolding end_tree left_with
  end-moves idle desk is empty = by_desk desk is (is_over (suc n) player.state.ended) refl
    where
      k : WayOf scene player n way
      k = way-at (WayHolds scene player.steps player.state) 1 scene.trace player.ways n way h.ways at

      number : k.number ≡ suc n
      number = (let is_one : k.number ≡ 1 + n = k.numbered in omega arith)

      within : suc n ≤ player.state.trees
      within = (let lt : n < length scene.trace = slice_get_within scene.trace n k.tree k.there in rw h.base.trees lt)

      done : Applied
      done = apply scene.grammar player.state (Step.End (suc n))

      fits : EndDone player.state (suc n) done
      fits = end-done scene.grammar player.state n h.base.sane.sound within

      after : Player
      after = after_step_of scene.grammar player (Step.End (suc n)) Reply.End

      more : History
      more = (Step.End (suc n), Reply.End) ∷ []

      quiet : is_over (suc n) player.state.ended ≡ false → Quiet (Step.End (suc n)) player.state done.state
      quiet open_ =
          record {
            attach = refl;
            detach = refl;
            answer = refl;
            attached = rw fits.queries refl;
            alone = λ alone. fits.queries;
            trees = fits.onward.trees;
            overs = λ m over. rw (fits.ended, over-put m (suc n) player.state.ended) (either (suc n == m) (is_over m player.state.ended) over);
            ends = λ e. (suc n, omega arith, within, open_);
          }
        where
          either : (b c : Bool) → c ≡ true → (if b then true else c) ≡ true
          either true c e = refl
          either false c e = e

      ended : is_over (suc n) player.state.ended ≡ false → length done.state.ended ≡ over_count (length scene.trace) done.state.ended
      ended open_ =
          let lt : suc n ≤ length scene.trace = rw h.base.trees at within in
          rw (fits.ended, length-put (suc n) player.state.ended open_, counted-put (length scene.trace) (suc n) player.state.ended (omega arith) lt open_) (ap suc h.base.ends)

      mine : is_over k.number player.state.ended ≡ false → EndsAs k.number (player.steps ++ more) k.holds.done way.items way.begun (is_over k.number done.state.ended)
      mine open_ =
          let over : is_over k.number (put_member k.number player.state.ended) ≡ true = over-put k.number k.number player.state.ended ∙ rw (eq-eqb k.number k.number refl) refl in
          rw fits.ended (subst (λ m. EndsAs k.number (player.steps ++ (Step.End m, Reply.End) ∷ []) k.holds.done way.items way.begun (is_over k.number (put_member m player.state.ended))) number (ends-as k idle empty open_ over))

      holds : (scene.book ≡ None → ⊥) → is_over (suc n) player.state.ended ≡ false → PlayHolds scene after
      holds lone open_ =
          let ways : EachWay (WayHolds scene (player.steps ++ more) done.state) 1 scene.trace (slice_set player.ways n way) =
          way-set (WayHolds scene player.steps player.state) (WayHolds scene (player.steps ++ more) done.state) 1 scene.trace player.ways n k.number k.tree way h.ways k.there k.numbered
          (WayHolds-onward scene player.steps (Step.End (suc n)) Reply.End player.state done.state fits.onward k.number k.tree way k.holds (mine (rw number open_)))
          (λ m other v ne held. WayHolds-later scene player.steps (Step.End (suc n)) Reply.End player.state done.state fits.onward m other v (ne_eqb (suc n) m (λ same. ne (sym same ∙ sym number))) held) in
          record {
            base = base-quiet scene player (Step.End (suc n)) Reply.End h.base fits.replied fits.onward (quiet open_) (λ none. absurd (lone none)) (rw fits.queries h.base.retries) (ended open_);
            ways = rw (← same_ways) ways;
            counted = λ c. counted-other player.steps (Step.End (suc n)) Reply.End c (count_own c player.ways) refl (h.counted c);
            scripts = scripts-other player.steps (Step.End (suc n)) Reply.End 1 scene.editors player.scripts (λ e le. refl) h.scripts;
          }
        where
          same_ways : slice_set player.ways n way ≡ player.ways
          same_ways = set-same player.ways n way at

      less : is_over (suc n) player.state.ended ≡ false → play_left scene after < play_left scene player
      less open_ =
          let lt : suc n ≤ length scene.trace = rw h.base.trees at within in
          let longer_ : length done.state.ended ≡ suc (length player.state.ended) = rw fits.ended (length-put (suc n) player.state.ended open_) in
          let most : over_count (length scene.trace) (put_member (suc n) player.state.ended) ≤ length scene.trace = over_count-le (length scene.trace) (put_member (suc n) player.state.ended) in
          let counted : over_count (length scene.trace) (put_member (suc n) player.state.ended) ≡ suc (over_count (length scene.trace) player.state.ended) = counted-put (length scene.trace) (suc n) player.state.ended (omega arith) lt open_ in
          let room : length player.state.ended < player.state.trees = rw (h.base.ends, h.base.trees) (omega arith) in
          rw (came-quiet player.steps (Step.End (suc n)) Reply.End refl, fits.queries, longer_, fits.onward.trees)
          (turned (ways_left (retries_of scene.book) player.ways + lines_left player.scripts + unanswered player.state.queries.all + desk_left (came player.steps) player.state.queries.attached) player.state.trees (length player.state.ended) room)
        where
          turned : (a b c : ℕ) → c < b → a + (b - suc c) < a + (b - c)
          turned a b c lt = omega arith

      by_desk : (d : Bool) → d ≡ is_some scene.book → (b : Bool) → is_over (suc n) player.state.ended ≡ b → TreeMoves scene player n way (if not d || b then None else option_map (λ (s : Settled). s.player) (settle scene.grammar player (Step.End (suc n))))
      by_desk false e b o = inr (refl, inl (record { idle = idle; empty = empty; over = λ desk. absurd (true≢false (sym desk ∙ sym e)) }))
      by_desk true e true o = inr (refl, inl (record { idle = idle; empty = empty; over = λ desk. o }))
      by_desk true e false o =
          inl
          (record {
            next = after;
            is = rw (settle-is scene.grammar player (Step.End (suc n)) Reply.End fits.replied) refl;
            holds = holds (λ none. true≢false (e ∙ ap is_some none)) o;
            less = less o;
          })
