-- What a player keeps on turns of its own, whoever decides on the supervisor's: each tree, each
-- take and each editor can go on.
use Rattle.std.proofs.Common.{◌≡◌, ◌<◌, ℕ, zero, suc, List, [], ◌∷◌, ◌++◌, length, map, Bool, true, false, refl, sym, ap, ◌∙◌, subst, arith, inl, inr, ◌⊎◌}
use Rattle.std.specs.Prelude.{Option, Some, None, IfSome, IsSome, IsTrue, is_some, ◌||◌, if◌then◌else◌, ◌==◌, not, slice_get, slice_set, unwrap_or, option_map}
use Rattle.std.specs.Option.{option_and_then, option_map_or}
use Rattle.std.specs.List.{AllByRecursion, list_all, list_any}
use Rattle.std.proofs.lemmas.Bool.{and_parts}
use Rattle.std.proofs.lemmas.Option.{slice_get_within}
use Rattle.tm_word.specs.Prelude.{Text}
use Rattle.tm_rules.specs.Types.{Answered, Book, Editor, FileKind, Held, Item, Look, Policy, Reply, Request, Step, Tree, Turn}
use Rattle.tm_rules.specs.Prelude.{IsGrammar, answer_of, is_request, item_is_request, live_domain}
use Rattle.tm_legal.specs.Prelude.{Begins, CanGoOn, CanPlay, DomainIn, History, InProgress, IsNamed, NextIsJudged, Player, Scene, Settled, Settles, Situation, Situations, Stage, StageHolds, State, ToAsk, TreeFits, Waits, Way, after, after_answer, after_step, apply, at_start, desk_turn, editor_event, end_tree, ended_way, event, first_look, forked, going_on, line_event, look_at, on_way, opening_of, own_turn, own_turns, passed, player_event, settle, stage_event, start_of, state_at, steps_of, supervisor_step, take_event, taken, tree_event, turn, turns, with_ids, with_situation}
use Rattle.tm_legal.proofs.Kept.{Sound, DomainIn-later, Fits, ready-fits, live_in, some_of}
use Rattle.tm_legal.proofs.Histories.{state_at-newest}
use Rattle.tm_legal.proofs.Plays.{some-then, some-all, start-good}
use Rattle.tm_legal.proofs.Walks.{Busy, Onward, StageHolds-later, All-map}
use Rattle.tm_legal.proofs.Takes.{Sane, ended-leads, going-ends, going-on, Looks, look-holds, begun_with, with_step, Stepped, next-holds}
use Rattle.tm_legal.proofs.Hears.{held-holds, nobody-holds, answer-holds, again-done, again-follows}
use Rattle.tm_legal.proofs.Onward.{Asks, ask-done, own-onward, fitting-onward}
use Rattle.tm_legal.proofs.Players.{after_step_of, settle-is, sane-after}
use Rattle.tm_legal.proofs.AllPlays.{sound-opening}
use Rattle.tm_legal.proofs.Named.{steps_keep_names}
use Rattle.tm_legal.proofs.Fitting.{is-judged, stage-fits}

-- What is kept

-- a process is in a domain that is there
abbrev pub IsPlaced : Policy → Situation → Type 0
IsPlaced p now = (d : ℕ) × (now.domain ≡ Some d) × DomainIn p d

-- a take that has begun: its domain is there, its request can be asked, and it has come to its
-- stage
pub record TakeGoes (scene : Scene) (history : History) (s : State) (b : InProgress) : Type 0 where
  pub domain : b.now.domain ≡ Some b.before
  pub there : DomainIn s.policy b.before
  pub asked : is_request scene.grammar.is_path b.request ≡ true
  pub stage : StageHolds scene history s b b.stage

-- the take that has begun, where one has
abbrev pub BegunGoes : Scene → History → State → Option InProgress → Type 0
BegunGoes scene history s begun = IfSome begun (TakeGoes scene history s)

-- a tree: its processes are placed, the requests that are left can be asked, and its take goes on
pub record WayGoes (scene : Scene) (history : History) (s : State) (way : Way) : Type 0 where
  pub placed : (pid : ℕ) → IsPlaced s.policy (way.at pid)
  pub requests : list_all (item_is_request scene.grammar.is_path) way.items ≡ true
  pub begun : BegunGoes scene history s way.begun

-- all trees, and an editor for each list of lines
pub record Goes (scene : Scene) (player : Player) : Type 0 where
  pub sane : Sane scene player
  pub ways : AllByRecursion (WayGoes scene player.steps player.state) player.ways
  pub trees : length player.ways ≡ player.state.trees
  pub scripts : length player.scripts ≡ length player.state.editors

-- Lists

all-set : {A : Type 0} (P : A → Type 0) (xs : List A) (n : ℕ) (x : A) → AllByRecursion P xs → P x → AllByRecursion P (slice_set xs n x)
all-set P [] n x all h = tt
all-set P (y ∷ xs) zero x all h = (h, all.1)
all-set P (y ∷ xs) (suc n) x all h = (all.0, all-set P xs n x all.1 h)

all-at : {A : Type 0} (P : A → Type 0) (xs : List A) (n : ℕ) (x : A) → AllByRecursion P xs → slice_get xs n ≡ Some x → P x
all-at P [] n x all at = absurd cc
all-at P (y ∷ xs) zero x all at = subst P (let same : y ≡ x = cc in same) all.0
all-at P (y ∷ xs) (suc n) x all at = all-at P xs n x all.1 at

long-set : {A : Type 0} (xs : List A) (n : ℕ) (x : A) → length (slice_set xs n x) ≡ length xs
long-set [] n x = refl
long-set (y ∷ xs) zero x = refl
long-set (y ∷ xs) (suc n) x = ap suc (long-set xs n x)

some-in : {A : Type 0} (xs : List A) (n : ℕ) → n < length xs → IsSome (slice_get xs n)
some-in [] n lt = absurd (omega arith)
some-in (x ∷ xs) zero lt = refl
some-in (x ∷ xs) (suc n) lt = some-in xs n (omega arith)

-- A step that is made

module _ (scene : Scene) (grammar : IsGrammar scene.grammar) where
  way-later : (history : History) (step : Step) (reply : Reply) (s s' : State) → Onward step s s' → (way : Way) → WayGoes scene history s way → WayGoes scene (history ++ (step, reply) ∷ []) s' way
  way-later history step reply s s' on way h =
      record {
        placed = λ pid. let at = h.placed pid in (at.0, at.1, DomainIn-later s.policy s'.policy at.0 on.evolves.keeps at.2);
        requests = h.requests;
        begun = by_begun way.begun h.begun;
      }
    where
      by_begun : (o : Option InProgress) → BegunGoes scene history s o → BegunGoes scene (history ++ (step, reply) ∷ []) s' o
      by_begun None held = tt
      by_begun (Some b) held =
          record {
            domain = held.domain;
            there = DomainIn-later s.policy s'.policy b.before on.evolves.keeps held.there;
            asked = held.asked;
            stage = StageHolds-later scene history ((step, reply) ∷ []) s s' on.evolves.keeps on.standing b b.stage held.stage;
          }

  -- the player after a step that has a reply
  made-goes : (player : Player) (step : Step) (reply : Reply) → Goes scene player → (apply scene.grammar player.state step).reply ≡ Some reply → Goes scene (after_step_of scene.grammar player step reply)
  made-goes player step reply h e =
      record {
        sane = sane-after scene player step reply h.sane e on.evolves;
        ways = All-map (WayGoes scene player.steps player.state) (WayGoes scene (player.steps ++ (step, reply) ∷ []) (apply scene.grammar player.state step).state) player.ways (way-later player.steps step reply player.state (apply scene.grammar player.state step).state on) h.ways;
        trees = h.trees ∙ sym on.trees;
        scripts = h.scripts ∙ ap length (sym on.editors);
      }
    where
      on : Onward step player.state (apply scene.grammar player.state step).state
      on = fitting-onward scene.grammar player.state step grammar h.sane.sound (subst IsSome (sym e) refl)

  -- whatever is made of the player after a step
  settled-goes : (player : Player) (step : Step) (f : Settled → Player) → ((reply : Reply) → (apply scene.grammar player.state step).reply ≡ Some reply → (let d : Settled = record { player = after_step_of scene.grammar player step reply; number = suc (length player.steps); reply = reply } in Goes scene (f d))) → IfSome (option_map f (settle scene.grammar player step)) (Goes scene)
  unfolding settle
  settled-goes player step f h = go (apply scene.grammar player.state step).reply refl
    where
      go : (o : Option Reply) → (apply scene.grammar player.state step).reply ≡ o → IfSome (option_map f (option_map (λ reply. let d : Settled = record { player = after_step_of scene.grammar player step reply; number = suc (length player.steps); reply = reply } in d) o)) (Goes scene)
      go None e = tt
      go (Some reply) e = h reply e

  -- a tree further on
  way-goes : (player : Player) (n : ℕ) (new : Way) → Goes scene player → WayGoes scene player.steps player.state new → Goes scene (on_way scene.grammar player n new)
  way-goes player n new h one =
      record {
        sane = record { true_to = record { state = h.sane.true_to.state; replies = h.sane.true_to.replies }; sound = h.sane.sound };
        ways = all-set (WayGoes scene player.steps player.state) player.ways n new h.ways one;
        trees = long-set player.ways n new ∙ h.trees;
        scripts = h.scripts;
      }

  -- Takes

  -- a take goes on, or ends where it owes nothing
  take-goes-on : (history : History) (s : State) (way : Way) (b : InProgress) → ((pid : ℕ) → IsPlaced s.policy (way.at pid)) → list_all (item_is_request scene.grammar.is_path) way.items ≡ true → TakeGoes scene history s b → WayGoes scene history s (going_on scene.grammar way b)
  take-goes-on history s way b placed requests h = go b.stage refl h.stage
    where
      stays : (x : Stage) → b.stage ≡ x → Busy x → WayGoes scene history s (going_on scene.grammar way b)
      stays x e busy = rw (going-on scene.grammar way b x e busy) (record { placed = placed; requests = requests; begun = h })

      ends : DomainIn s.policy (taken scene.grammar b).after → WayGoes scene history s (ended_way scene.grammar way b)
      ends there =
          record {
            placed = λ pid. by_pid pid (pid == b.now.process.pid);
            requests = requests;
            begun = tt;
          }
        where
          by_pid : (pid : ℕ) (x : Bool) → IsPlaced s.policy (if x then record (way.at b.now.process.pid) { domain = Some (taken scene.grammar b).after } else way.at pid)
          by_pid pid true = ((taken scene.grammar b).after, refl, there)
          by_pid pid false = placed pid

      go : (x : Stage) → b.stage ≡ x → StageHolds scene history s b x → WayGoes scene history s (going_on scene.grammar way b)
      go (Stage.Owing []) e (begins, inl settles) = rw (going-ends scene.grammar way b e) (ends (ended-leads scene history s.policy b h.there settles).1)
      go (Stage.Owing []) e (begins, inr to_ask) = absurd (let none : [] ≡ Step.Ask b.before b.retry to_ask.text ∷ [] = to_ask.is in cc)
      go (Stage.Owing (step ∷ rest)) e held = stays (Stage.Owing (step ∷ rest)) e tt
      go (Stage.Waiting serial) e held = stays (Stage.Waiting serial) e tt
      go Stage.Looking e held = stays Stage.Looking e tt

  -- a look at the newest version begins a take, or goes on with one
  look-goes : (player : Player) (now : Situation) (request : Request) (retry : ℕ) (looked : List Look) (d : ℕ) (f : InProgress → Player) → Sane scene player → now.domain ≡ Some d → DomainIn player.state.policy d → is_request scene.grammar.is_path request ≡ true → (looks : Looks scene player now request retry looked d) → ((b : InProgress) → TakeGoes scene player.steps player.state b → Goes scene (f b)) → IfSome (option_map f (look_at scene.grammar player now request retry looked)) (Goes scene)
  look-goes player now request retry looked d f sane domain there asked looks h =
      rw looks.is
      (h (begun_with scene player now request retry looked d looks.verdict) (record { domain = domain; there = there; asked = asked; stage = looks.stage }))

  module _ (player : Player) (n : ℕ) (way : Way) (h : Goes scene player) (w : WayGoes scene player.steps player.state way) where
    -- the tree with its take further on, after no step
    same-goes : (b : InProgress) → TakeGoes scene player.steps player.state b → Goes scene (on_way scene.grammar player n (going_on scene.grammar way b))
    same-goes b goes = way-goes player n (going_on scene.grammar way b) h (take-goes-on player.steps player.state way b w.placed w.requests goes)

    -- and after one
    stepped-goes : (step : Step) (reply : Reply) (b : InProgress) → (apply scene.grammar player.state step).reply ≡ Some reply → TakeGoes scene (player.steps ++ (step, reply) ∷ []) (apply scene.grammar player.state step).state b → Goes scene (on_way scene.grammar (after_step_of scene.grammar player step reply) n (going_on scene.grammar way b))
    stepped-goes step reply b e goes =
        let later = way-later player.steps step reply player.state (apply scene.grammar player.state step).state (fitting-onward scene.grammar player.state step grammar h.sane.sound (subst IsSome (sym e) refl)) way w in
        way-goes (after_step_of scene.grammar player step reply) n (going_on scene.grammar way b) (made-goes player step reply h e)
        (take-goes-on (player.steps ++ (step, reply) ∷ []) (apply scene.grammar player.state step).state way b later.placed later.requests goes)

    module _ (b : InProgress) (g : TakeGoes scene player.steps player.state b) where
      own-goes : (step : Step) (rest : List Step) → Begins scene player.steps player.state.policy b (step ∷ rest) → Settles scene player.steps player.state.policy b (step ∷ rest) → IfSome (stage_event scene.grammar player n way b (Stage.Owing (step ∷ rest))) (Goes scene)
      unfolding stage_event
      own-goes step rest begins settles =
          let done = apply scene.grammar player.state step in
          let fits : Fits player.state step done = ready-fits scene.grammar player.state step h.sane.sound settles.ready.0 in
          let on : Onward step player.state done.state = own-onward player.state step done fits in
          let steps : Stepped scene player.steps done.state b rest fits.reply step = next-holds scene player.steps player.state done.state b rest step fits.reply on fits.answers begins settles in
          rw (settle-is scene.grammar player step fits.reply fits.replied, steps.is)
          (stepped-goes step fits.reply (with_step b (suc (length player.steps)) steps.led rest) fits.replied
          (record { domain = g.domain; there = DomainIn-later player.state.policy done.state.policy b.before on.evolves.keeps g.there; asked = g.asked; stage = steps.stage }))

      ask-goes : (text : Text) → Begins scene player.steps player.state.policy b (Step.Ask b.before b.retry text ∷ []) → ToAsk scene b (Step.Ask b.before b.retry text ∷ []) → IfSome (stage_event scene.grammar player n way b (Stage.Owing (Step.Ask b.before b.retry text ∷ []))) (Goes scene)
      unfolding stage_event
      ask-goes text begins to_ask = rw (settle-is scene.grammar player step (Reply.Ask asks.held) asks.replied) (by_held asks.held refl)
        where
          step : Step
          step = Step.Ask b.before b.retry text

          s' : State
          s' = (apply scene.grammar player.state step).state

          asks : Asks player.state step b.retry (apply scene.grammar player.state step)
          asks = ask-done scene.grammar player.state b.before b.retry text h.sane.sound g.there

          there : DomainIn s'.policy b.before
          there = DomainIn-later player.state.policy s'.policy b.before asks.onward.evolves.keeps g.there

          by_held : (held : Held) → asks.held ≡ held → Goes scene (on_way scene.grammar (after_step_of scene.grammar player step (Reply.Ask asks.held)) n (going_on scene.grammar way (after_step scene.grammar b [] (suc (length player.steps)) (Reply.Ask asks.held))))
          by_held (Held.Serial serial) e =
              let query = asks.query serial e in
              rw e
              (stepped-goes step (Reply.Ask (Held.Serial serial)) (after_step scene.grammar b [] (suc (length player.steps)) (Reply.Ask (Held.Serial serial))) (asks.replied ∙ ap (λ held. Some (Reply.Ask held)) e)
              (record { domain = g.domain; there = there; asked = g.asked; stage = held-holds scene player.steps step player.state s' b serial query.0 asks.onward begins to_ask query.1 query.2 }))
          by_held Held.Nobody e =
              rw e
              (stepped-goes step (Reply.Ask Held.Nobody) (after_step scene.grammar b [] (suc (length player.steps)) (Reply.Ask Held.Nobody)) (asks.replied ∙ ap (λ held. Some (Reply.Ask held)) e)
              (record { domain = g.domain; there = there; asked = g.asked; stage = nobody-holds scene player.steps step player.state s' b asks.onward begins to_ask }))

      ask-of : (step : Step) (rest : List Step) (text : Text) → step ∷ rest ≡ Step.Ask b.before b.retry text ∷ [] → Begins scene player.steps player.state.policy b (step ∷ rest) → ToAsk scene b (step ∷ rest) → IfSome (stage_event scene.grammar player n way b (Stage.Owing (step ∷ rest))) (Goes scene)
      ask-of step rest text e begins to_ask = rw e (ask-goes text (rw e at begins) (rw e at to_ask))

      newest : state_at scene player.steps (length player.steps) ≡ player.state
      newest = state_at-newest scene player.steps ∙ sym h.sane.true_to.state

      -- the answer, whoever gave it
      answer-goes : (serial : ℕ) → Begins scene player.steps player.state.policy b [] → Waits scene player.steps player.state.queries.all b serial → (answer : Answered) → answer_of player.state.queries serial ≡ Some answer → Goes scene (on_way scene.grammar player n (going_on scene.grammar way (after_answer scene.grammar b (length player.steps) answer)))
      answer-goes serial begins waits answer has = by_answer answer has
        where
          holds : (a : Answered) → answer_of player.state.queries serial ≡ Some a → StageHolds scene player.steps player.state (after_answer scene.grammar b (length player.steps) a) (after_answer scene.grammar b (length player.steps) a).stage
          holds a e = answer-holds scene player.steps player.state newest b g.there serial a begins waits e

          by_answer : (a : Answered) → answer_of player.state.queries serial ≡ Some a → Goes scene (on_way scene.grammar player n (going_on scene.grammar way (after_answer scene.grammar b (length player.steps) a)))
          by_answer Answered.Yes e = same-goes (after_answer scene.grammar b (length player.steps) Answered.Yes) (record { domain = g.domain; there = g.there; asked = g.asked; stage = holds Answered.Yes e })
          by_answer Answered.No e = same-goes (after_answer scene.grammar b (length player.steps) Answered.No) (record { domain = g.domain; there = g.there; asked = g.asked; stage = holds Answered.No e })
          by_answer Answered.Retry e = same-goes (after_answer scene.grammar b (length player.steps) Answered.Retry) (record { domain = g.domain; there = g.there; asked = g.asked; stage = holds Answered.Retry e })
          by_answer Answered.Detached e = same-goes (after_answer scene.grammar b (length player.steps) Answered.Detached) (record { domain = g.domain; there = g.there; asked = g.asked; stage = holds Answered.Detached e })

      -- the next event of the take
      take-event-goes : (x : Stage) → StageHolds scene player.steps player.state b x → IfSome (stage_event scene.grammar player n way b x) (Goes scene)
      unfolding stage_event
      take-event-goes (Stage.Owing []) held = tt
      take-event-goes (Stage.Owing (step ∷ rest)) (begins, inl settles) = own-goes step rest begins settles
      take-event-goes (Stage.Owing (step ∷ rest)) (begins, inr to_ask) = ask-of step rest to_ask.text to_ask.is begins to_ask
      take-event-goes (Stage.Waiting serial) (begins, waits) = go (answer_of player.state.queries serial) refl
        where
          go : (o : Option Answered) → answer_of player.state.queries serial ≡ o → IfSome (option_map (λ answer. on_way scene.grammar player n (going_on scene.grammar way (after_answer scene.grammar b (length player.steps) answer))) o) (Goes scene)
          go None e = tt
          go (Some answer) e = answer-goes serial begins waits answer e
      take-event-goes Stage.Looking (begins, heard, again) =
          look-goes player b.now b.request (suc b.retry) (b.looked ++ b.look ∷ []) b.before (λ next. on_way scene.grammar player n (going_on scene.grammar way next)) h.sane g.domain g.there g.asked
          (look-holds scene player b.now b.request (suc b.retry) (b.looked ++ b.look ∷ []) b.before grammar h.sane g.domain g.there g.asked (again-done scene player.steps player.state b begins heard) (again-follows scene player.steps player.state b begins again))
          same-goes

  -- Trees

  -- `ids` and `fork` lines leave each process placed
  passed-placed : (p : Policy) (at : Situations) (items : List Item) → ((pid : ℕ) → IsPlaced p (at pid)) → (pid : ℕ) → IsPlaced p ((passed scene.grammar at items).0 pid)
  passed-placed p at [] h = h
  passed-placed p at (Item.Do pid request ∷ items) h = h
  passed-placed p at (Item.Ids pid ids ∷ items) h = passed-placed p (with_situation at pid (with_ids (at pid) ids)) items (λ other. go other (other == pid))
    where
      go : (other : ℕ) (x : Bool) → IsPlaced p (if x then with_ids (at pid) ids else at other)
      go other true = let now = h pid in (now.0, now.1, now.2)
      go other false = h other
  passed-placed p at (Item.Fork pid child ∷ items) h = passed-placed p (with_situation at child (forked (at pid) child)) items (λ other. go other (other == child))
    where
      go : (other : ℕ) (x : Bool) → IsPlaced p (if x then forked (at pid) child else at other)
      go other true = let now = h pid in (now.0, now.1, now.2)
      go other false = h other

  passed-asks : (at : Situations) (items : List Item) → list_all (item_is_request scene.grammar.is_path) items ≡ true → list_all (item_is_request scene.grammar.is_path) (passed scene.grammar at items).1 ≡ true
  passed-asks at [] h = h
  passed-asks at (Item.Do pid request ∷ items) h = h
  passed-asks at (Item.Ids pid ids ∷ items) h = passed-asks (with_situation at pid (with_ids (at pid) ids)) items h
  passed-asks at (Item.Fork pid child ∷ items) h = passed-asks (with_situation at child (forked (at pid) child)) items h

  end-goes : (player : Player) (desk : Bool) (n : ℕ) → Goes scene player → IfSome (end_tree scene.grammar player desk n) (Goes scene)
  unfolding end_tree
  end-goes player desk n h = go (not desk || list_any (λ ended. ended == suc n) player.state.ended)
    where
      go : (x : Bool) → IfSome (if x then None else option_map (λ (d : Settled). d.player) (settle scene.grammar player (Step.End (suc n)))) (Goes scene)
      go true = tt
      go false = settled-goes player (Step.End (suc n)) (λ d. d.player) (λ reply e. made-goes player (Step.End (suc n)) reply h e)

  first-goes : (player : Player) (desk : Bool) (n : ℕ) (way : Way) (at : Situations) (items : List Item) → Goes scene player → ((pid : ℕ) → IsPlaced player.state.policy (at pid)) → list_all (item_is_request scene.grammar.is_path) items ≡ true → IfSome (first_look scene.grammar player desk n way (at, items)) (Goes scene)
  unfolding first_look
  first-goes player desk n way at [] h placed requests = end-goes player desk n h
  first-goes player desk n way at (Item.Ids pid ids ∷ items) h placed requests = end-goes player desk n h
  first-goes player desk n way at (Item.Fork pid child ∷ items) h placed requests = end-goes player desk n h
  first-goes player desk n way at (Item.Do pid request ∷ items) h placed requests =
      let parts = and_parts (is_request scene.grammar.is_path request) (list_all (item_is_request scene.grammar.is_path) items) requests in
      let now = placed pid in
      look-goes player (at pid) request 0 [] now.0 (λ b. on_way scene.grammar player n (going_on scene.grammar (record way { at = at; items = items }) b)) h.sane now.1 now.2 parts.0
      (look-holds scene player (at pid) request 0 [] now.0 grammar h.sane now.1 now.2 parts.0 tt refl)
      (λ b goes. way-goes player n (going_on scene.grammar (record way { at = at; items = items }) b) h (take-goes-on player.steps player.state (record way { at = at; items = items }) b placed parts.1 goes))

  tree-goes : (player : Player) (desk : Bool) (t : ℕ) → Goes scene player → IfSome (tree_event scene.grammar player desk t) (Goes scene)
  unfolding tree_event
  tree-goes player desk zero h = tt
  tree-goes player desk (suc n) h = by_way (slice_get player.ways n) refl
    where
      by_begun : (way : Way) → WayGoes scene player.steps player.state way → (o : Option InProgress) → BegunGoes scene player.steps player.state o → IfSome (option_map_or (take_event scene.grammar player n way) o (first_look scene.grammar player desk n way (passed scene.grammar way.at way.items))) (Goes scene)
      by_begun way w None begun =
          first-goes player desk n way (passed scene.grammar way.at way.items).0 (passed scene.grammar way.at way.items).1 h (passed-placed player.state.policy way.at way.items w.placed) (passed-asks way.at way.items w.requests)
      by_begun way w (Some b) begun = take-event-goes player n way h w b begun b.stage begun.stage

      by_way : (o : Option Way) → slice_get player.ways n ≡ o → IfSome (option_and_then (λ (way : Way). option_map_or (take_event scene.grammar player n way) way.begun (first_look scene.grammar player desk n way (passed scene.grammar way.at way.items))) o) (Goes scene)
      by_way None at = tt
      by_way (Some way) at = let w : WayGoes scene player.steps player.state way = all-at (WayGoes scene player.steps player.state) player.ways n way h.ways at in by_begun way w way.begun w.begun

  -- Editors and the supervisor

  line-goes : (player : Player) (e : ℕ) (lines : List (FileKind × Text)) → Goes scene player → IfSome (line_event scene.grammar player e lines) (Goes scene)
  unfolding line_event
  line-goes player e [] h = tt
  line-goes player e (line ∷ lines) h =
      settled-goes player (Step.Edit (suc e) line.0 line.1) (λ d. record d.player { scripts = slice_set d.player.scripts e lines })
      (λ reply fits.
      let made = made-goes player (Step.Edit (suc e) line.0 line.1) reply h fits in
      record {
        sane = record { true_to = record { state = made.sane.true_to.state; replies = made.sane.true_to.replies }; sound = made.sane.sound };
        ways = made.ways;
        trees = made.trees;
        scripts = long-set player.scripts e lines ∙ made.scripts;
      })

  editor-goes : (player : Player) (e : ℕ) → Goes scene player → IfSome (editor_event scene.grammar player e) (Goes scene)
  editor-goes player zero h = tt
  editor-goes player (suc e) h = some-then (Goes scene) (line_event scene.grammar player e) (slice_get player.scripts e) (some-all _ (λ lines. line-goes player e lines h) (slice_get player.scripts e))

  -- whatever it answers
  supervisor-goes : (player : Player) (o : Option Step) → Goes scene player → IfSome (option_and_then (λ step. option_map (λ (d : Settled). d.player) (settle scene.grammar player step)) o) (Goes scene)
  supervisor-goes player None h = tt
  supervisor-goes player (Some step) h = settled-goes player step (λ d. d.player) (λ reply e. made-goes player step reply h e)

  -- an event of its own
  player-goes : (player : Player) (desk : Bool) (who : Turn) → Goes scene player → IfSome (player_event scene.grammar player desk who) (Goes scene)
  unfolding player_event
  player-goes player desk (Turn.Tree t) h = tree-goes player desk t h
  player-goes player desk (Turn.Editor e) h = editor-goes player e h
  player-goes player desk Turn.Desk h = supervisor-goes player (supervisor_step scene.grammar player desk Turn.Desk) h
  player-goes player desk Turn.Attach h = supervisor-goes player (supervisor_step scene.grammar player desk Turn.Attach) h
  player-goes player desk (Turn.Answer serial code) h = supervisor-goes player (supervisor_step scene.grammar player desk (Turn.Answer serial code)) h
  player-goes player desk Turn.Detach h = supervisor-goes player (supervisor_step scene.grammar player desk Turn.Detach) h

  -- turns of its own
  pub own-turns-go : (player : Player) (desk : Bool) (list : List Turn) → Goes scene player → Goes scene (own_turns scene.grammar desk player list)
  unfolding own_turn own_turns
  own-turns-go player desk [] h = h
  own-turns-go player desk (who ∷ list) h = own-turns-go (own_turn scene.grammar desk player who) desk list (go (player_event scene.grammar player desk who) (player-goes player desk who h))
    where
      go : (o : Option Player) → IfSome o (Goes scene) → Goes scene (unwrap_or o player)
      go None moved = h
      go (Some next) moved = moved

-- The start

start-placed : (scene : Scene) (tree : Tree) → Sound scene.policy → IsSome (live_domain scene.policy tree.start) → (pid : ℕ) → IsPlaced scene.policy (at_start scene.policy tree pid)
start-placed scene tree sound starts pid =
    let live = some_of (live_domain scene.policy tree.start) starts in (live.0, live.1, live_in scene.policy tree.start live.0 sound live.1)

start-ways : (scene : Scene) (trees : List Tree) → Sound scene.policy → AllByRecursion (λ (tree : Tree). IsSome (live_domain scene.policy tree.start)) trees → AllByRecursion (λ (tree : Tree). IsTrue (list_all (item_is_request scene.grammar.is_path) tree.records)) trees → AllByRecursion (WayGoes scene [] (opening_of scene)) (map (λ (tree : Tree). let way : Way = record { at = at_start scene.policy tree; items = tree.records; begun = None; takes = [] } in way) trees)
start-ways scene [] sound starts requests = tt
start-ways scene (tree ∷ trees) sound starts requests = (record { placed = start-placed scene tree sound starts.0; requests = requests.0; begun = tt }, start-ways scene trees sound starts.1 requests.1)

pub start-goes : (scene : Scene) → CanPlay scene → Goes scene (start_of scene)
start-goes scene can =
    record {
      sane = record { true_to = start-good scene; sound = sound-opening scene can };
      ways = start-ways scene scene.trace (sound-opening scene can) can.starts can.requests;
      trees = long-map (λ (tree : Tree). let way : Way = record { at = at_start scene.policy tree; items = tree.records; begun = None; takes = [] } in way) scene.trace;
      scripts = long-map (λ (editor : Editor). editor.lines) scene.editors;
    }
  where
    long-map : {A B : Type 0} (f : A → B) (xs : List A) → length (map f xs) ≡ length xs
    long-map f [] = refl
    long-map f (x ∷ xs) = ap suc (long-map f xs)

-- A player that keeps it can go on

module _ (scene : Scene) (can : CanPlay scene) (player : Player) (h : Goes scene player) where
  next-fits : (at : Situations) (items : List Item) → ((pid : ℕ) → IsPlaced player.state.policy (at pid)) → list_all (item_is_request scene.grammar.is_path) items ≡ true → NextIsJudged scene.grammar player.state at items
  next-fits at [] placed requests = tt
  next-fits at (Item.Ids pid ids ∷ items) placed requests = tt
  next-fits at (Item.Fork pid child ∷ items) placed requests = tt
  next-fits at (Item.Do pid request ∷ items) placed requests =
      let asked : is_request scene.grammar.is_path request ≡ true = (and_parts (is_request scene.grammar.is_path request) (list_all (item_is_request scene.grammar.is_path) items) requests).0 in
      let now = placed pid in
      (asked, is-judged scene.grammar player.state (at pid) now.0 request can.grammar h.sane.sound now.2 now.1 asked)

  tree-fits : (way : Way) → WayGoes scene player.steps player.state way → (o : Option InProgress) → BegunGoes scene player.steps player.state o → TreeFits scene.grammar player.state way o
  tree-fits way w None begun =
      next-fits (passed scene.grammar way.at way.items).0 (passed scene.grammar way.at way.items).1 (passed-placed scene can.grammar player.state.policy way.at way.items w.placed) (passed-asks scene can.grammar way.at way.items w.requests)
  tree-fits way w (Some b) begun = (begun.asked, stage-fits scene player.steps player.state can.grammar h.sane.sound b b.stage begun.there begun.domain begun.asked begun.stage)

  pub goes-can : CanGoOn scene.grammar player
  goes-can =
      let named : IsNamed scene.grammar.is_path (after scene.grammar (opening_of scene) (steps_of player.steps)).policy = steps_keep_names scene.grammar (opening_of scene) (steps_of player.steps) can.grammar can.named in
      record {
        ways = λ t way at.
            let w : WayGoes scene player.steps player.state way = all-at (WayGoes scene player.steps player.state) player.ways t way h.ways at in
            record { named = subst (λ (s : State). IsNamed scene.grammar.is_path s.policy) (sym h.sane.true_to.state) named; fits = tree-fits way w way.begun w.begun };
        editors = λ e lines at. some-in player.state.editors e (subst (λ k. e < k) h.scripts (slice_get_within player.scripts e lines at));
        trees = h.trees;
      }

-- Turns of a schedule are turns of the player's own

event-own : (scene : Scene) (player : Player) (who : Turn) → (event scene player who ≡ None) ⊎ ((own : Turn) × (event scene player who ≡ player_event scene.grammar player (is_some scene.book) own))
unfolding event
event-own scene player (Turn.Tree t) = inr (Turn.Tree t, refl)
event-own scene player (Turn.Editor e) = inr (Turn.Editor e, refl)
event-own scene player Turn.Attach = inl refl
event-own scene player (Turn.Answer serial code) = inl refl
event-own scene player Turn.Detach = inl refl
event-own scene player Turn.Desk = by_book scene.book
  where
    by_turn : (o : Option Turn) → (option_and_then (player_event scene.grammar player true) o ≡ None) ⊎ ((own : Turn) × (option_and_then (player_event scene.grammar player true) o ≡ player_event scene.grammar player true own))
    by_turn None = inl refl
    by_turn (Some own) = inr (own, refl)

    by_book : (o : Option Book) → (option_and_then (λ book. option_and_then (player_event scene.grammar player true) (desk_turn scene.grammar player book)) o ≡ None) ⊎ ((own : Turn) × (option_and_then (λ book. option_and_then (player_event scene.grammar player true) (desk_turn scene.grammar player book)) o ≡ player_event scene.grammar player (is_some o) own))
    by_book None = inl refl
    by_book (Some book) = by_turn (desk_turn scene.grammar player book)

pub turns-are-own : (scene : Scene) (player : Player) (list : List Turn) → (own : List Turn) × (turns scene player list ≡ own_turns scene.grammar (is_some scene.book) player own)
unfolding turn turns own_turn own_turns
turns-are-own scene player [] = ([], refl)
turns-are-own scene player (who ∷ list) = go (event-own scene player who) (turns-are-own scene (turn scene player who) list)
  where
    go : (event scene player who ≡ None) ⊎ ((own : Turn) × (event scene player who ≡ player_event scene.grammar player (is_some scene.book) own)) → (own : List Turn) × (turns scene (turn scene player who) list ≡ own_turns scene.grammar (is_some scene.book) (turn scene player who) own) → (own : List Turn) × (turns scene (turn scene player who) list ≡ own_turns scene.grammar (is_some scene.book) player own)
    go (inl none) rest = (rest.0, rest.1 ∙ ap (λ (o : Option Player). own_turns scene.grammar (is_some scene.book) (unwrap_or o player) rest.0) none)
    go (inr (own, is)) rest = (own ∷ rest.0, rest.1 ∙ ap (λ (o : Option Player). own_turns scene.grammar (is_some scene.book) (unwrap_or o player) rest.0) is)
