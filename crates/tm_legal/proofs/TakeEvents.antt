-- The events of a take that has begun: its next own step, its Ask, the taking of its answer, and
-- another look.
use Rattle.std.proofs.Common.{◌≡◌, ◌≤◌, ◌<◌, ℕ, zero, suc, ◌+◌, ◌-◌, ◌*◌, List, [], ◌∷◌, ◌++◌, length, Bool, true, false, true≢false, refl, sym, ap, ◌∙◌, subst, arith, inl, inr, ◌⊎◌}
use Rattle.std.specs.Prelude.{Option, Some, None, slice_get, slice_set, if◌then◌else◌, IsSome, is_some, option_map, flat_map}
use Rattle.std.specs.List.{AllByRecursion, list_all}
use Rattle.std.specs.Option.{option_map_or}
use Rattle.std.proofs.lemmas.Bool.{and_parts}
use Rattle.tm_word.specs.Prelude.{Text}
use Rattle.tm_rules.specs.Types.{Answered, Held, Item, Look, Policy, Reply, Step}
use Rattle.tm_rules.specs.Prelude.{Grammar, IsGrammar, Standing, answer_of, first_query, first_unanswered, is_request, item_is_request, numbered}
use Rattle.tm_legal.specs.Prelude.{Applied, Begins, DomainIn, InProgress, LookDone, LookHears, Player, Ready, Scene, Settles, Situations, Stage, StageHolds, State, ToAsk, Waits, Way, after_answer, after_step, apply, do_pids, edit_line, first_look, going_on, is_answer, is_attach, is_detach, is_end, is_of_supervisor, is_own, is_retry, is_some_end, looks_left, on_way, own_numbers, passed, play_left, raised, retries_of, seen, stage_event, stage_left, state_at, step_at, steps_left, steps_of_move, subject_now, take_event, times, times_owned, tree_event, unanswered, way_left}
use Rattle.tm_legal.proofs.Laws.{times-append}
use Rattle.tm_legal.proofs.Kept.{Fits, ready-fits}
use Rattle.tm_legal.proofs.Asked.{move-ready}
use Rattle.tm_legal.proofs.Histories.{All-push, raised-le, state_at-newest}
use Rattle.tm_legal.proofs.Walks.{RisesTo-push, MayRetry, Busy, Onward, WayHolds, WayHolds-later, Stands, passed-holds}
use Rattle.tm_legal.proofs.Takes.{move-few, owed_by, Running, take-goes, begun_with, Looks, look-holds, with_step, Stepped, next-holds}
use Rattle.tm_legal.proofs.Hears.{held-holds, nobody-holds, answer-holds, again-done, again-follows}
use Rattle.tm_legal.proofs.Onward.{own-onward, Asks, ask-done}
use Rattle.tm_legal.proofs.Counts.{way-at, way-set, begun_own, begun_own-is, way_own, count_own, count_own-set, going-own, counted-push}
use Rattle.tm_legal.proofs.Desks.{Quiet}
use Rattle.tm_legal.proofs.Scripts.{scripts-other}
use Rattle.tm_legal.proofs.Players.{Fewer, Serials-push, Retries, PlayHolds, Moved, after_step_of, settle-is, base-quiet, base-way, unanswered-push, going-left, ready-left, Next, passed-next, passed-pids, WayOf, replaced}
use Rattle.tm_legal.proofs.Trees.{TreeMoves, less-way, less-step, running-of, running-with, stands_now, takes_now, way_left-of, owed-left, same_number, do-moves, end-moves}

-- a step of a process's own, as others see it
pub record IsOwn (step : Step) (reply : Reply) : Type 0 where
  pub own : is_own step ≡ true
  pub lone : is_of_supervisor step ≡ false
  pub attach : is_attach step ≡ false
  pub no_end : (t : ℕ) → is_end t step ≡ false
  pub no_edit : (e : ℕ) → edit_line e (step, reply) ≡ None

own-is : (g : Grammar) (p : Policy) (step : Step) (reply : Reply) → Ready g p step → IsOwn step reply
own-is g p (Step.Learn d entry) reply h = record { own = refl; lone = refl; attach = refl; no_end = λ t. refl; no_edit = λ e. refl }
own-is g p (Step.Make d name) reply h = record { own = refl; lone = refl; attach = refl; no_end = λ t. refl; no_edit = λ e. refl }
own-is g p (Step.Fail d) reply h = record { own = refl; lone = refl; attach = refl; no_end = λ t. refl; no_edit = λ e. refl }
own-is g p (Step.Ask d retry line) reply h = absurd h
own-is g p (Step.Answer serial code) reply h = absurd h
own-is g p Step.Attach reply h = absurd h
own-is g p Step.Detach reply h = absurd h
own-is g p (Step.Edit e file line) reply h = absurd h
own-is g p (Step.End t) reply h = absurd h

-- what holds of each query holds of the numbered one
numbered-holds : (P : Standing → Type 0) (xs : List Standing) (n : ℕ) (x : Standing) → numbered xs n ≡ Some x → AllByRecursion P xs → P x
numbered-holds P xs zero x at all = absurd cc
numbered-holds P [] (suc n) x at all = absurd cc
numbered-holds P (y ∷ xs) (suc zero) x at all = subst P (let same : y ≡ x = cc in same) all.0
numbered-holds P (y ∷ xs) (suc (suc n)) x at all = numbered-holds P xs (suc n) x at all.1

-- an unanswered query is no less than the first
some-unanswered : (xs : List Standing) (n : ℕ) (x : Standing) → numbered xs n ≡ Some x → x.answer ≡ None → IsSome (first_unanswered xs)
some-unanswered xs zero x at none = absurd cc
some-unanswered [] (suc n) x at none = absurd cc
some-unanswered (y ∷ xs) (suc zero) x at none = let same : y ≡ x = cc in rw (same, none) refl
some-unanswered (y ∷ xs) (suc (suc n)) x at none = go (is_some y.answer) (some-unanswered xs (suc n) x at none)
  where
    go : (b : Bool) → IsSome (first_unanswered xs) → IsSome (if b then first_unanswered xs else Some y.query)
    go true rest = rest
    go false rest = refl

last-of : {A : Type 0} (P : A → Type 0) (xs : List A) (x : A) → AllByRecursion P (xs ++ x ∷ []) → P x
last-of P [] x all = all.0
last-of P (y ∷ xs) x all = last-of P xs x all.1

quiet-of : (s s' : State) (step : Step) → s'.queries ≡ s.queries → s'.ended ≡ s.ended → s'.trees ≡ s.trees → is_attach step ≡ false → is_detach step ≡ false → is_answer step ≡ false → is_some_end step ≡ false → Quiet step s s'
quiet-of s s' step queries ended trees attach detach answer no_end =
    record {
      attach = attach;
      detach = detach;
      answer = answer;
      attached = rw queries refl;
      alone = λ alone. queries;
      trees = trees;
      overs = λ t over. rw ended over;
      ends = λ e. absurd (true≢false (sym e ∙ no_end));
    }

own-quiet : (g : Grammar) (s : State) (step : Step) (done : Applied) → Ready g s.policy step → Fits s step done → Quiet step s done.state
own-quiet g s (Step.Learn d entry) done ready fits = quiet-of s done.state (Step.Learn d entry) (rw fits.others refl) (rw fits.others refl) (rw fits.others refl) refl refl refl refl
own-quiet g s (Step.Make d name) done ready fits = quiet-of s done.state (Step.Make d name) (rw fits.others refl) (rw fits.others refl) (rw fits.others refl) refl refl refl refl
own-quiet g s (Step.Fail d) done ready fits = quiet-of s done.state (Step.Fail d) (rw fits.others refl) (rw fits.others refl) (rw fits.others refl) refl refl refl refl
own-quiet g s (Step.Ask d retry line) done ready fits = absurd ready
own-quiet g s (Step.Answer serial code) done ready fits = absurd ready
own-quiet g s Step.Attach done ready fits = absurd ready
own-quiet g s Step.Detach done ready fits = absurd ready
own-quiet g s (Step.Edit e file line) done ready fits = absurd ready
own-quiet g s (Step.End t) done ready fits = absurd ready

module _ (scene : Scene) (grammar : IsGrammar scene.grammar) (player : Player) (n : ℕ) (way : Way) (h : PlayHolds scene player) (at : slice_get player.ways n ≡ Some way) (b : InProgress) (is : way.begun ≡ Some b) where
  -- a step that the take makes, and the take after it
  tree-stepped : (step : Step) (reply : Reply) (b' : InProgress) (more : ℕ) → (let done : Applied = apply scene.grammar player.state step in done.reply ≡ Some reply → Onward step player.state done.state → Quiet step player.state done.state → IsOwn step reply → Retries (retries_of scene.book) done.state.queries.all → done.state.ended ≡ player.state.ended → unanswered done.state.queries.all ≤ more + unanswered player.state.queries.all → StageHolds scene (player.steps ++ (step, reply) ∷ []) done.state b' b'.stage → MayRetry scene b' → b'.request ≡ b.request → b'.now ≡ b.now → b'.before ≡ b.before → b'.looked ≡ b.looked → b'.look.version ≡ b.look.version → b'.look.own ≡ b.look.own ++ suc (length player.steps) ∷ [] → stage_left (retries_of scene.book) b'.retry b'.stage + more < stage_left (retries_of scene.book) b.retry b.stage → Moved scene player (Some (on_way scene.grammar (after_step_of scene.grammar player step reply) n (going_on scene.grammar way b'))))
  tree-stepped step reply b' more replied on quiet own retries ended asked stage may request now before looked version owns less =
      record { next = next; is = refl; holds = holds; less = fewer }
    where
      t : WayOf scene player n way
      t = way-at (WayHolds scene player.steps player.state) 1 scene.trace player.ways n way h.ways at

      s' : State
      s' = (apply scene.grammar player.state step).state

      new : Way
      new = going_on scene.grammar way b'

      next : Player
      next = on_way scene.grammar (after_step_of scene.grammar player step reply) n new

      later : WayHolds scene (player.steps ++ (step, reply) ∷ []) s' t.number t.tree (record way { begun = Some b })
      later = WayHolds-later scene player.steps step reply player.state s' on t.number t.tree (record way { begun = Some b }) (own.no_end t.number) (takes_now scene player.steps player.state t.number t.tree way b is t.holds)

      running : Running scene (player.steps ++ (step, reply) ∷ []) s' t.number t.tree way.at way.items way.takes b'
      running = running-with scene (player.steps ++ (step, reply) ∷ []) s' t.number t.tree way.at way.items way.takes b b' request now before looked version (running-of scene (player.steps ++ (step, reply) ∷ []) s' t.number t.tree way b later)

      counts : (c : ℕ) → count_own c (slice_set player.ways n new) ≡ times_owned (step_at (player.steps ++ (step, reply) ∷ []) c)
      counts c =
          let number : List ℕ = suc (length player.steps) ∷ [] in
          let set : count_own c (slice_set player.ways n new) + times c (way_own way) ≡ count_own c player.ways + times c (way_own new) = count_own-set c player.ways n way new at in
          let goes : times c (way_own new) ≡ times c (own_numbers way.takes) + times c (begun_own (Some b')) = going-own scene.grammar c way b' in
          let one : times c (begun_own (Some b')) ≡ times c (begun_own (Some b)) + times c number =
          begun_own-is c b' ∙ rw (looked, owns, begun_own-is c b, times-append c b.look.own number) (sums (times c (flat_map (λ (look : Look). look.own) b.looked)) (times c b.look.own) (times c number)) in
          let was : times c (way_own way) ≡ times c (own_numbers way.takes) + times c (begun_own (Some b)) = rw is (times-append c (own_numbers way.takes) (begun_own (Some b))) in
          let equal : count_own c (slice_set player.ways n new) ≡ count_own c player.ways + times c number = omega arith in
          equal ∙ counted-push player.steps step reply c (count_own c player.ways) own.own (h.counted c)
        where
          sums : (x y z : ℕ) → x + (y + z) ≡ (x + y) + z
          sums x y z = omega arith

      holds : PlayHolds scene next
      holds =
          record {
            base = base-way scene (after_step_of scene.grammar player step reply) n new (base-quiet scene player step reply h.base replied on quiet (λ none. own.lone) retries (rw ended h.base.ends));
            ways =
                way-set (WayHolds scene player.steps player.state) (WayHolds scene (player.steps ++ (step, reply) ∷ []) s') 1 scene.trace player.ways n t.number t.tree new h.ways t.there t.numbered
                (take-goes scene (player.steps ++ (step, reply) ∷ []) s' t.number t.tree way b' running stage may)
                (λ m other v ne held. WayHolds-later scene player.steps step reply player.state s' on m other v (own.no_end m) held);
            counted = counts;
            scripts = scripts-other player.steps step reply 1 scene.editors player.scripts (λ e le. own.no_edit e) h.scripts;
          }

      fewer : play_left scene next < play_left scene player
      fewer =
          let most : ℕ = retries_of scene.book in
          let left : way_left most new ≡ (5 + 4 * most) * length (do_pids way.items) + stage_left most b'.retry b'.stage = going-left scene.grammar most way b' in
          let was : way_left most way ≡ (5 + 4 * most) * length (do_pids way.items) + stage_left most b.retry b.stage = way_left-of most way b b.stage is refl in
          less-step scene player n way new step reply more at own.attach quiet.attached ended on.trees asked
          (rw (left, was) (sums ((5 + 4 * most) * length (do_pids way.items)) (stage_left most b'.retry b'.stage) more (stage_left most b.retry b.stage) less))
        where
          sums : (p x m y : ℕ) → x + m < y → (p + x) + m < p + y
          sums p x m y lt = omega arith

  -- the next own step
  own-moves : (step : Step) (rest : List Step) → b.stage ≡ Stage.Owing (step ∷ rest) → Begins scene player.steps player.state.policy b (step ∷ rest) → Settles scene player.steps player.state.policy b (step ∷ rest) → Moved scene player (stage_event scene.grammar player n way b (Stage.Owing (step ∷ rest)))
  unfolding stage_event
  own-moves step rest stage begins settles = rw (settle-is scene.grammar player step fits.reply fits.replied, steps.is) moved
    where
      done : Applied
      done = apply scene.grammar player.state step

      fits : Fits player.state step done
      fits = ready-fits scene.grammar player.state step h.base.sane.sound settles.ready.0

      on : Onward step player.state done.state
      on = own-onward player.state step done fits

      steps : Stepped scene player.steps done.state b rest fits.reply step
      steps = next-holds scene player.steps player.state done.state b rest step fits.reply on fits.answers begins settles

      less : stage_left (retries_of scene.book) b.retry (Stage.Owing rest) + 0 < stage_left (retries_of scene.book) b.retry b.stage
      less =
          let most : ℕ = retries_of scene.book in
          rw (stage, ready-left scene.grammar player.state.policy most b.retry (step ∷ rest) settles.ready, ready-left scene.grammar player.state.policy most b.retry rest settles.ready.1) (omega arith)

      moved : Moved scene player (Some (on_way scene.grammar (after_step_of scene.grammar player step fits.reply) n (going_on scene.grammar way (with_step b (suc (length player.steps)) steps.led rest))))
      moved =
          tree-stepped step fits.reply (with_step b (suc (length player.steps)) steps.led rest) 0 fits.replied on (own-quiet scene.grammar player.state step done settles.ready.0 fits) (own-is scene.grammar player.state.policy step fits.reply settles.ready.0)
          (rw fits.others h.base.retries) (rw fits.others refl) (rw fits.others (omega arith)) steps.stage (λ e. absurd cc) refl refl refl refl refl refl less

  t : WayOf scene player n way
  t = way-at (WayHolds scene player.steps player.state) 1 scene.trace player.ways n way h.ways at

  w : WayHolds scene player.steps player.state t.number t.tree (record way { begun = Some b })
  unfolding t
  w = takes_now scene player.steps player.state t.number t.tree way b is t.holds

  runs : Running scene player.steps player.state t.number t.tree way.at way.items way.takes b
  unfolding t
  runs = running-of scene player.steps player.state t.number t.tree way b w

  -- the process's domain is there
  there : DomainIn player.state.policy b.before
  there =
      let a = runs.agree runs.pid in
      let number : a.number ≡ b.before = same_number a.number b.before (sym a.numbered ∙ runs.before) in
      subst (DomainIn player.state.policy) number a.there

  -- the Ask
  ask-moves : (text : Text) → b.stage ≡ Stage.Owing (Step.Ask b.before b.retry text ∷ []) → Begins scene player.steps player.state.policy b (Step.Ask b.before b.retry text ∷ []) → ToAsk scene b (Step.Ask b.before b.retry text ∷ []) → Moved scene player (stage_event scene.grammar player n way b (Stage.Owing (Step.Ask b.before b.retry text ∷ [])))
  unfolding stage_event
  ask-moves text stage begins to_ask = rw (settle-is scene.grammar player step (Reply.Ask asks.held) asks.replied) (by_held asks.held refl)
    where
      step : Step
      step = Step.Ask b.before b.retry text

      done : Applied
      done = apply scene.grammar player.state step

      asks : Asks player.state step b.retry done
      asks = ask-done scene.grammar player.state b.before b.retry text h.base.sane.sound there

      quiet : Quiet step player.state done.state
      quiet =
          record {
            attach = refl;
            detach = refl;
            answer = refl;
            attached = asks.attached;
            alone = asks.alone;
            trees = asks.onward.trees;
            overs = λ m over. rw asks.ended over;
            ends = λ e. absurd (true≢false (sym e));
          }

      own : (reply : Reply) → IsOwn step reply
      own reply = record { own = refl; lone = refl; attach = refl; no_end = λ m. refl; no_edit = λ e. refl }

      retries : Retries (retries_of scene.book) done.state.queries.all
      retries = go asks.grows
        where
          go : (asks.held ≡ Held.Nobody) × (done.state.queries.all ≡ player.state.queries.all) ⊎ ((new : Standing) × (done.state.queries.all ≡ player.state.queries.all ++ new ∷ []) × (new.answer ≡ None) × (new.query.serial ≡ suc (length player.state.queries.all))) → Retries (retries_of scene.book) done.state.queries.all
          go (inl same) = rw same.1 h.base.retries
          go (inr (new, more, none, serial)) =
              rw more (
                All-push (Fewer (retries_of scene.book)) player.state.queries.all new h.base.retries.0 (λ retry. absurd (let both : None ≡ Some Answered.Retry = sym none ∙ retry in cc)),
                Serials-push 1 player.state.queries.all new h.base.retries.1 (omega arith),
              )

      asked : unanswered done.state.queries.all ≤ 1 + unanswered player.state.queries.all
      asked = go asks.grows
        where
          go : (asks.held ≡ Held.Nobody) × (done.state.queries.all ≡ player.state.queries.all) ⊎ ((new : Standing) × (done.state.queries.all ≡ player.state.queries.all ++ new ∷ []) × (new.answer ≡ None) × (new.query.serial ≡ suc (length player.state.queries.all))) → unanswered done.state.queries.all ≤ 1 + unanswered player.state.queries.all
          go (inl same) = rw same.1 (omega arith)
          go (inr (new, more, none, serial)) = rw more (let le : unanswered (player.state.queries.all ++ new ∷ []) ≤ suc (unanswered player.state.queries.all) = unanswered-push player.state.queries.all new in omega arith)

      by_held : (held : Held) → asks.held ≡ held → Moved scene player (Some (on_way scene.grammar (after_step_of scene.grammar player step (Reply.Ask asks.held)) n (going_on scene.grammar way (after_step scene.grammar b [] (suc (length player.steps)) (Reply.Ask asks.held)))))
      by_held (Held.Serial serial) e =
          let query = asks.query serial e in
          rw e
          (tree-stepped step (Reply.Ask (Held.Serial serial)) (after_step scene.grammar b [] (suc (length player.steps)) (Reply.Ask (Held.Serial serial))) 1 (asks.replied ∙ ap (λ held. Some (Reply.Ask held)) e) asks.onward quiet (own (Reply.Ask (Held.Serial serial))) retries asks.ended asked
          (held-holds scene player.steps step player.state done.state b serial query.0 asks.onward begins to_ask query.1 query.2) (λ e. absurd cc) refl refl refl refl refl refl
          (rw stage (omega arith)))
      by_held Held.Nobody e =
          rw e
          (tree-stepped step (Reply.Ask Held.Nobody) (after_step scene.grammar b [] (suc (length player.steps)) (Reply.Ask Held.Nobody)) 1 (asks.replied ∙ ap (λ held. Some (Reply.Ask held)) e) asks.onward quiet (own (Reply.Ask Held.Nobody)) retries asks.ended asked
          (nobody-holds scene player.steps step player.state done.state b asks.onward begins to_ask) (λ e. absurd cc) refl refl refl refl refl refl
          (rw stage (omega arith)))

  -- the take further on, without a step
  further : (b' : InProgress) → StageHolds scene player.steps player.state b' b'.stage → MayRetry scene b' → Running scene player.steps player.state t.number t.tree way.at way.items way.takes b' → ((c : ℕ) → times c (begun_own (Some b')) ≡ times c (begun_own (Some b))) → stage_left (retries_of scene.book) b'.retry b'.stage < stage_left (retries_of scene.book) b.retry b.stage → Moved scene player (Some (on_way scene.grammar player n (going_on scene.grammar way b')))
  further b' stage may running same less =
      record {
        next = on_way scene.grammar player n (going_on scene.grammar way b');
        is = refl;
        holds = replaced scene player n way (going_on scene.grammar way b') h at t (take-goes scene player.steps player.state t.number t.tree way b' running stage may)
            (λ c. going-own scene.grammar c way b' ∙ rw (is, same c, times-append c (own_numbers way.takes) (begun_own (Some b))) refl);
        less = less-way scene player n way (going_on scene.grammar way b') at
            (let most : ℕ = retries_of scene.book in
            let left : way_left most (going_on scene.grammar way b') ≡ (5 + 4 * most) * length (do_pids way.items) + stage_left most b'.retry b'.stage = going-left scene.grammar most way b' in
            let was : way_left most way ≡ (5 + 4 * most) * length (do_pids way.items) + stage_left most b.retry b.stage = way_left-of most way b b.stage is refl in
            rw (left, was) (sums ((5 + 4 * most) * length (do_pids way.items)) (stage_left most b'.retry b'.stage) (stage_left most b.retry b.stage) less));
      }
    where
      sums : (p x y : ℕ) → x < y → p + x < p + y
      sums p x y lt = omega arith

  newest : state_at scene player.steps (length player.steps) ≡ player.state
  newest = state_at-newest scene player.steps ∙ sym h.base.sane.true_to.state

  -- the taking of an answer
  hear-moves : (serial : ℕ) → b.stage ≡ Stage.Waiting serial → Begins scene player.steps player.state.policy b [] → Waits scene player.steps player.state.queries.all b serial → (answer : Answered) → answer_of player.state.queries serial ≡ Some answer → Moved scene player (Some (on_way scene.grammar player n (going_on scene.grammar way (after_answer scene.grammar b (length player.steps) answer))))
  unfolding answer_of
  hear-moves serial stage begins waits answer has = by_answer answer has
    where
      most : ℕ
      most = retries_of scene.book

      given : (a : Answered) → answer_of player.state.queries serial ≡ Some a → waits.standing.answer ≡ Some a
      given a e = rw waits.there at e

      fewer : answer_of player.state.queries serial ≡ Some Answered.Retry → b.retry < most
      fewer e = rw (← waits.same_retry) (numbered-holds (Fewer most) player.state.queries.all serial waits.standing waits.there h.base.retries.0 (given Answered.Retry e))

      held : (a : Answered) → answer_of player.state.queries serial ≡ Some a → StageHolds scene player.steps player.state (after_answer scene.grammar b (length player.steps) a) (after_answer scene.grammar b (length player.steps) a).stage
      held a e = answer-holds scene player.steps player.state newest b there serial a begins waits e

      ready : AllByRecursion (Ready scene.grammar player.state.policy) (steps_of_move b.before b.verdict)
      ready = move-ready scene.grammar player.state.policy b.before there b.verdict.mode b.verdict.reason b.verdict.name b.verdict.step b.verdict.target b.verdict.line begins.moves

      few : length (steps_of_move b.before b.verdict) ≤ 1
      few = move-few b.before b.verdict.mode b.verdict.reason b.verdict.name b.verdict.step b.verdict.target b.verdict.line

      runs_on : (b' : InProgress) → b'.request ≡ b.request → b'.now ≡ b.now → b'.before ≡ b.before → b'.looked ≡ b.looked → b'.look.version ≡ b.look.version → Running scene player.steps player.state t.number t.tree way.at way.items way.takes b'
      runs_on b' request now before looked version = running-with scene player.steps player.state t.number t.tree way.at way.items way.takes b b' request now before looked version runs

      same : (b' : InProgress) → b'.looked ≡ b.looked → b'.look.own ≡ b.look.own → (c : ℕ) → times c (begun_own (Some b')) ≡ times c (begun_own (Some b))
      same b' looked own c = begun_own-is c b' ∙ rw (looked, own) refl ∙ sym (begun_own-is c b)

      by_answer : (a : Answered) → answer_of player.state.queries serial ≡ Some a → Moved scene player (Some (on_way scene.grammar player n (going_on scene.grammar way (after_answer scene.grammar b (length player.steps) a))))
      by_answer Answered.Yes e =
          further (after_answer scene.grammar b (length player.steps) Answered.Yes) (held Answered.Yes e) (λ looking. absurd cc) (runs_on (after_answer scene.grammar b (length player.steps) Answered.Yes) refl refl refl refl refl) (same (after_answer scene.grammar b (length player.steps) Answered.Yes) refl refl)
          (rw (stage, ready-left scene.grammar player.state.policy most b.retry (steps_of_move b.before b.verdict) ready) (omega (arith, few)))
      by_answer Answered.Retry e =
          further (after_answer scene.grammar b (length player.steps) Answered.Retry) (held Answered.Retry e) (λ looking. fewer e) (runs_on (after_answer scene.grammar b (length player.steps) Answered.Retry) refl refl refl refl refl) (same (after_answer scene.grammar b (length player.steps) Answered.Retry) refl refl)
          (rw stage (omega arith))
      by_answer Answered.No e =
          further (after_answer scene.grammar b (length player.steps) Answered.No) (held Answered.No e) (λ looking. absurd cc) (runs_on (after_answer scene.grammar b (length player.steps) Answered.No) refl refl refl refl refl) (same (after_answer scene.grammar b (length player.steps) Answered.No) refl refl)
          (rw stage (omega arith))
      by_answer Answered.Detached e =
          further (after_answer scene.grammar b (length player.steps) Answered.Detached) (held Answered.Detached e) (λ looking. absurd cc) (runs_on (after_answer scene.grammar b (length player.steps) Answered.Detached) refl refl refl refl refl) (same (after_answer scene.grammar b (length player.steps) Answered.Detached) refl refl)
          (rw stage (omega arith))

  wait-moves : (serial : ℕ) → b.stage ≡ Stage.Waiting serial → Begins scene player.steps player.state.policy b [] → Waits scene player.steps player.state.queries.all b serial → TreeMoves scene player n way (stage_event scene.grammar player n way b (Stage.Waiting serial))
  unfolding stage_event answer_of first_query
  wait-moves serial stage begins waits = go (answer_of player.state.queries serial) refl
    where
      go : (o : Option Answered) → answer_of player.state.queries serial ≡ o → TreeMoves scene player n way (option_map (λ answer. on_way scene.grammar player n (going_on scene.grammar way (after_answer scene.grammar b (length player.steps) answer))) o)
      go None e = inr (refl, inr (some-unanswered player.state.queries.all serial waits.standing waits.there (rw waits.there at e)))
      go (Some answer) e = inl (hear-moves serial stage begins waits answer e)

  -- another look
  again-moves : b.stage ≡ Stage.Looking → Begins scene player.steps player.state.policy b [] → LookHears scene player.steps b.look → is_retry b.look.heard ≡ true → b.retry < retries_of scene.book → Moved scene player (stage_event scene.grammar player n way b Stage.Looking)
  unfolding stage_event
  again-moves stage begins heard again fewer = rw looks.is (further b' looks.stage (λ e. absurd cc) running same less)
    where
      most : ℕ
      most = retries_of scene.book

      is_asked : is_request scene.grammar.is_path b.request ≡ true
      is_asked = (and_parts (is_request scene.grammar.is_path b.request) (list_all (item_is_request scene.grammar.is_path) way.items) runs.requests).0

      domain : b.now.domain ≡ Some b.before
      domain = rw runs.now runs.before

      done : AllByRecursion (LookDone scene player.steps (subject_now b)) (b.looked ++ b.look ∷ [])
      done = again-done scene player.steps player.state b begins heard

      looks : Looks scene player b.now b.request (suc b.retry) (b.looked ++ b.look ∷ []) b.before
      looks = look-holds scene player b.now b.request (suc b.retry) (b.looked ++ b.look ∷ []) b.before grammar h.base.sane domain there is_asked done (again-follows scene player.steps player.state b begins again)

      b' : InProgress
      b' = begun_with scene player b.now b.request (suc b.retry) (b.looked ++ b.look ∷ []) b.before looks.verdict

      sees : AllByRecursion (λ k. k ≤ length player.steps) (seen b.look)
      sees = (last-of (LookDone scene player.steps (subject_now b)) b.looked b.look done).sees

      low : runs.low ≤ length player.steps
      low = (let a : runs.low ≤ b.look.version = runs.floor in let c : b.look.version ≤ length player.steps = begins.looked.version in omega arith)

      running : Running scene player.steps player.state t.number t.tree way.at way.items way.takes b'
      running =
          record {
            walked = runs.walked;
            done = runs.done;
            pid = runs.pid;
            cases = runs.cases;
            pids = runs.pids;
            agree = runs.agree;
            requests = runs.requests;
            ended = runs.ended;
            numbered_so = runs.numbered_so;
            are_taken = runs.are_taken;
            now = runs.now;
            before = runs.before;
            low = raised runs.low (seen b.look);
            rises = RisesTo-push player.steps (runs.walked runs.pid).floor b.looked runs.low b.look runs.floor begins.looked.version runs.rises;
            floor = raised-le runs.low (length player.steps) (seen b.look) low sees;
            not_over = runs.not_over;
            no_end = runs.no_end;
          }

      same : (c : ℕ) → times c (begun_own (Some b')) ≡ times c (begun_own (Some b))
      same c = begun_own-is c b' ∙ plus-zero (times c (begun_own (Some b)))
        where
          plus-zero : (x : ℕ) → x + 0 ≡ x
          plus-zero x = omega arith

      less : stage_left most (suc b.retry) b'.stage < stage_left most b.retry b.stage
      less = subst (λ (x : Stage). stage_left most (suc b.retry) b'.stage < stage_left most b.retry x) (sym stage) (go (steps_left most (suc b.retry) (owed_by scene b.before (suc b.retry) looks.verdict)) (owed-left scene player.steps player.state most b.now player b.request (suc b.retry) (b.looked ++ b.look ∷ []) b.before looks.verdict looks.stage.1))
        where
          go : (x : ℕ) → (x ≤ 2) ⊎ (x ≡ looks_left most (suc b.retry)) → x < 1 + 4 * (most - b.retry)
          go x (inl few) = omega (arith, fewer)
          go x (inr e) = omega (arith, fewer)

  -- the next event of the take
  pub take-moves : TreeMoves scene player n way (take_event scene.grammar player n way b)
  take-moves = by_stage b.stage refl w.begun.stage w.begun.busy
    where
      ask_of : (step : Step) (rest : List Step) (text : Text) → step ∷ rest ≡ Step.Ask b.before b.retry text ∷ [] → b.stage ≡ Stage.Owing (step ∷ rest) → Begins scene player.steps player.state.policy b (step ∷ rest) → ToAsk scene b (step ∷ rest) → Moved scene player (stage_event scene.grammar player n way b (Stage.Owing (step ∷ rest)))
      ask_of step rest text e stage begins to_ask = rw e (ask-moves text (stage ∙ ap Stage.Owing e) (rw e at begins) (rw e at to_ask))

      by_stage : (x : Stage) → b.stage ≡ x → StageHolds scene player.steps player.state b x → Busy x → TreeMoves scene player n way (stage_event scene.grammar player n way b x)
      by_stage (Stage.Owing []) e held busy = absurd busy
      by_stage (Stage.Owing (step ∷ rest)) e (begins, inl settles) busy = inl (own-moves step rest e begins settles)
      by_stage (Stage.Owing (step ∷ rest)) e (begins, inr to_ask) busy = inl (ask_of step rest to_ask.text to_ask.is e begins to_ask)
      by_stage (Stage.Waiting serial) e (begins, waits) busy = wait-moves serial e begins waits
      by_stage Stage.Looking e (begins, heard, again) busy = inl (again-moves e begins heard again (w.begun.fewer e))

-- Trees

module _ (scene : Scene) (grammar : IsGrammar scene.grammar) (player : Player) (n : ℕ) (way : Way) (h : PlayHolds scene player) (at : slice_get player.ways n ≡ Some way) where
  -- a tree without a take: its next look, or its end
  first-moves : (desk : Bool) → desk ≡ is_some scene.book → way.begun ≡ None → TreeMoves scene player n way (first_look scene.grammar player desk n way (passed scene.grammar way.at way.items))
  unfolding first_look
  first-moves desk is idle =
      by_items (passed scene.grammar way.at way.items).0 (passed scene.grammar way.at way.items).1 (passed-next scene.grammar way.at way.items) (passed-pids scene.grammar way.at way.items)
      (way-at (WayHolds scene player.steps player.state) 1 scene.trace player.ways n way h.ways at)
      (λ k. passed-holds scene player.steps player.state k.number k.tree way.takes way.at way.items (stands_now scene player.steps player.state k.number k.tree way idle k.holds))
    where
      by_items : (now : Situations) (items : List Item) → Next items → do_pids items ≡ do_pids way.items → (k : WayOf scene player n way) → ((m : WayOf scene player n way) → Stands scene player.steps player.state m.number m.tree way.takes now items) → TreeMoves scene player n way (first_look scene.grammar player desk n way (now, items))
      by_items now [] next pids k standing = end-moves scene grammar player n way h at idle desk is (sym pids)
      by_items now (Item.Ids pid ids ∷ items) next pids k standing = absurd next
      by_items now (Item.Fork pid child ∷ items) next pids k standing = absurd next
      by_items now (Item.Do pid request ∷ items) next pids k standing = do-moves scene grammar player n way h at idle desk now pid request items pids k (standing k)

  -- an event of a tree
  pub tree-moves : (desk : Bool) → desk ≡ is_some scene.book → TreeMoves scene player n way (tree_event scene.grammar player desk (suc n))
  unfolding tree_event
  tree-moves desk is = rw at (by_begun way.begun refl)
    where
      by_begun : (o : Option InProgress) → way.begun ≡ o → TreeMoves scene player n way (option_map_or (take_event scene.grammar player n way) o (first_look scene.grammar player desk n way (passed scene.grammar way.at way.items)))
      by_begun None e = first-moves desk is e
      by_begun (Some b) e = take-moves scene grammar player n way h at b e
