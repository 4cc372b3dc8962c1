-- A tree on its way: the walk over its lines as far as it has come, the takes that have ended, and
-- the take that has begun.
use Rattle.std.proofs.Common.{◌≡◌, ◌≤◌, ◌<◌, ℕ, suc, List, [], ◌∷◌, ◌++◌, length, map, Bool, true, false, refl, sym, ap, ◌∙◌, subst, arith, inl, inr}
use Rattle.std.specs.Prelude.{Option, Some, None, if◌then◌else◌, ◌==◌, IfSome, flat_map}
use Rattle.std.specs.List.{AllByRecursion, list_all, list_any}
use Rattle.std.proofs.lemmas.Bool.{eqb-true}
use Rattle.tm_rules.specs.Types.{Ids, Item, Look, Policy, Reply, Step, Take, Tree}
use Rattle.tm_rules.specs.Prelude.{Standing, item_is_request, numbered}
use Rattle.tm_legal.specs.Prelude.{Agrees, AllAgree, AsksWith, Begins, Case, EndsWith, FollowsTo, History, InProgress, IsLegalTake, LookDone, LooksFollow, LooksRise, Ready, RisesTo, Scene, Settles, Situation, Situations, Stage, StageHolds, State, Subject, Way, at_start, do_pids, forked, is_end, is_retry, last_look, passed, places, raised, retries_of, seen, subject_now, subject_of, tree_cases, with_ids, with_situation}
use Rattle.tm_legal.proofs.Laws.{state_at-later}
use Rattle.tm_legal.proofs.Kept.{DomainIn-later, Keeps, Evolves, Ready-later}
use Rattle.tm_legal.proofs.Asked.{MoveFits-later}
use Rattle.tm_legal.proofs.Histories.{reply_at-later, domain_after-later, places-other}
use Rattle.tm_legal.proofs.Looked.{Looked-later, LookDone-later, LookHears-later, AsksWith-later, Leads-later, longer}

-- Processes

pub AllAgree-later : (p q : Policy) (n m : ℕ) (walked played : Situations) → Keeps p q → n ≤ m → AllAgree p n walked played → AllAgree q m walked played
AllAgree-later p q n m walked played keeps le h pid =
    let a = h pid in
    record { process = a.process; domain = a.domain; floor = omega (arith, a.floor); pid_is = a.pid_is; number = a.number; numbered = a.numbered; there = DomainIn-later p q a.number keeps a.there }

-- one process changes in both
pub AllAgree-with : (p : Policy) (n : ℕ) (walked played : Situations) (pid : ℕ) (a b : Situation) → Agrees p n pid a b → AllAgree p n walked played → AllAgree p n (with_situation walked pid a) (with_situation played pid b)
AllAgree-with p n walked played pid a b one h other = go (other == pid) refl
  where
    go : (t : Bool) → (other == pid) ≡ t → Agrees p n other (if t then a else walked other) (if t then b else played other)
    go true e = subst (λ k. Agrees p n k a b) (sym (eqb-true other pid e)) one
    go false e = h other

-- Lists

pub All-map : {A : Type 0} (P Q : A → Type 0) (xs : List A) → ((x : A) → P x → Q x) → AllByRecursion P xs → AllByRecursion Q xs
All-map P Q [] f h = tt
All-map P Q (x ∷ xs) f h = (f x h.0, All-map P Q xs f h.1)

-- Looks in their order

pub RisesTo-later : (history more : History) (floor : ℕ) (looks : List Look) (low : ℕ) → RisesTo history floor looks low → RisesTo (history ++ more) floor looks low
RisesTo-later history more floor [] low h = h
RisesTo-later history more floor (look ∷ looks) low h = (h.0, (let le : length history ≤ length (history ++ more) = longer history more in omega (arith, h.1)), RisesTo-later history more (raised floor (seen look)) looks low h.2)

-- a look more
pub RisesTo-push : (history : History) (floor : ℕ) (looks : List Look) (low : ℕ) (look : Look) → low ≤ look.version → look.version ≤ length history → RisesTo history floor looks low → RisesTo history floor (looks ++ look ∷ []) (raised low (seen look))
RisesTo-push history floor [] low look le at h = (rw h le, at, rw h refl)
RisesTo-push history floor (first ∷ looks) low look le at h = (h.0, h.1, RisesTo-push history (raised floor (seen first)) looks low look le at h.2)

-- the last look
pub RisesTo-ends : (history : History) (floor : ℕ) (looks : List Look) (low : ℕ) (look : Look) → low ≤ look.version → look.version ≤ length history → RisesTo history floor looks low → LooksRise history floor (looks ++ look ∷ [])
RisesTo-ends history floor [] low look le at h = (rw h le, at, tt)
RisesTo-ends history floor (first ∷ looks) low look le at h = (h.0, h.1, RisesTo-ends history (raised floor (seen first)) looks low look le at h.2)

LooksRise-later : (history more : History) (floor : ℕ) (looks : List Look) → LooksRise history floor looks → LooksRise (history ++ more) floor looks
LooksRise-later history more floor [] h = tt
LooksRise-later history more floor (look ∷ looks) h = (h.0, (let le : length history ≤ length (history ++ more) = longer history more in omega (arith, h.1)), LooksRise-later history more (raised floor (seen look)) looks h.2)

pub FollowsTo-push : (history : History) (k : ℕ) (looks : List Look) (retry : ℕ) (look : Look) → AsksWith history retry look → is_retry look.heard ≡ true → FollowsTo history k looks retry → FollowsTo history k (looks ++ look ∷ []) (suc retry)
FollowsTo-push history k [] retry look asks again h = (subst (λ r. AsksWith history r look) (sym h) asks, again, ap suc h)
FollowsTo-push history k (first ∷ looks) retry look asks again h = (h.0, h.1, FollowsTo-push history (suc k) looks retry look asks again h.2)

pub FollowsTo-ends : (history : History) (k : ℕ) (looks : List Look) (retry : ℕ) (look : Look) → AsksWith history retry look → is_retry look.heard ≡ false → FollowsTo history k looks retry → LooksFollow history k (looks ++ look ∷ [])
FollowsTo-ends history k [] retry look asks last h = (subst (λ r. AsksWith history r look) (sym h) asks, last)
FollowsTo-ends history k (first ∷ []) retry look asks last h = (h.0, h.1, FollowsTo-ends history (suc k) [] retry look asks last h.2)
FollowsTo-ends history k (first ∷ next ∷ looks) retry look asks last h = (h.0, h.1, FollowsTo-ends history (suc k) (next ∷ looks) retry look asks last h.2)

module _ (scene : Scene) (history more : History) (s : Subject) where
  pub FollowsTo-later : (k : ℕ) (looks : List Look) (retry : ℕ) → AllByRecursion (LookDone scene history s) looks → FollowsTo history k looks retry → FollowsTo (history ++ more) k looks retry
  FollowsTo-later k [] retry done h = h
  FollowsTo-later k (look ∷ looks) retry done h = (AsksWith-later history more k look done.0.bounds h.0, h.1, FollowsTo-later (suc k) looks retry done.1 h.2)

  LooksFollow-later : (k : ℕ) (looks : List Look) → AllByRecursion (LookDone scene history s) looks → LooksFollow history k looks → LooksFollow (history ++ more) k looks
  LooksFollow-later k [] done h = tt
  LooksFollow-later k (look ∷ []) done h = (AsksWith-later history more k look done.0.bounds h.0, h.1)
  LooksFollow-later k (look ∷ next ∷ looks) done h = (AsksWith-later history more k look done.0.bounds h.0, h.1, LooksFollow-later (suc k) (next ∷ looks) done.1 h.2)

-- Takes that have ended

ends-later : (scene : Scene) (history more : History) (s : Subject) (taken : Take) (looks : List Look) → AllByRecursion (LookDone scene history s) looks → IfSome (last_look looks) (EndsWith scene history s taken) → IfSome (last_look looks) (EndsWith scene (history ++ more) s taken)
ends-later scene history more s taken [] done h = tt
ends-later scene history more s taken (look ∷ []) done h =
    record {
      granted = h.granted;
      domain = domain_after-later history more s.domain look done.0.bounds ∙ h.domain;
      audit = rw (state_at-later scene history more look.version done.0.version) h.audit;
    }
ends-later scene history more s taken (look ∷ next ∷ looks) done h = ends-later scene history more s taken (next ∷ looks) done.1 h

pub IsLegalTake-later : (scene : Scene) (history more : History) (c : Case) → IsLegalTake scene history c → IsLegalTake scene (history ++ more) c
IsLegalTake-later scene history more c h =
    record {
      some = h.some;
      before = h.before;
      rises = LooksRise-later history more c.now.floor c.taken.looks h.rises;
      looks = All-map (LookDone scene history (subject_of c)) (LookDone scene (history ++ more) (subject_of c)) c.taken.looks (LookDone-later scene history more (subject_of c)) h.looks;
      follows = LooksFollow-later scene history more (subject_of c) 0 c.taken.looks h.looks h.follows;
      ends = ends-later scene history more (subject_of c) c.taken c.taken.looks h.looks h.ends;
    }

-- The take that has begun

-- another look is one of those that the book may ask for
abbrev pub MayRetry : Scene → InProgress → Type 0
MayRetry scene b = b.stage ≡ Stage.Looking → b.retry < retries_of scene.book

-- the take hasn't ended
abbrev pub Busy : Stage → Type 0
Busy (Stage.Owing []) = ⊥
Busy stage = Unit {0}

-- States that follow each other

-- each query stays with its serial
abbrev pub StandingKeeps : List Standing → List Standing → Type 0
StandingKeeps xs ys = (n : ℕ) (x : Standing) → numbered xs n ≡ Some x → (y : Standing) × (numbered ys n ≡ Some y) × (y.query ≡ x.query)

-- the tree has ended
abbrev pub is_over : ℕ → List ℕ → Bool
is_over t ended = list_any (λ n. n == t) ended

-- what a step leaves to the others
pub record Onward (step : Step) (s s' : State) : Type 0 where
  pub evolves : Evolves s.policy s'.policy
  pub standing : StandingKeeps s.queries.all s'.queries.all
  pub over : (t : ℕ) → is_end t step ≡ false → is_over t s'.ended ≡ is_over t s.ended
  pub editors : s'.editors ≡ s.editors
  pub trees : s'.trees ≡ s.trees

-- however many steps follow, whoever makes them
module _ (scene : Scene) (history more : History) (p q : Policy) (keeps : Keeps p q) where
  pub Begins-later : (b : InProgress) (rest : List Step) → Begins scene history p b rest → Begins scene (history ++ more) q b rest
  Begins-later b rest h =
      record {
        looked = Looked-later scene history more (subject_now b) b.retry b.look b.verdict rest b.audit h.looked;
        line = h.line;
        moves = MoveFits-later scene.grammar p q b.before b.verdict.step b.verdict.target keeps h.moves;
        done = All-map (LookDone scene history (subject_now b)) (LookDone scene (history ++ more) (subject_now b)) b.looked (LookDone-later scene history more (subject_now b)) h.done;
        follow = FollowsTo-later scene history more (subject_now b) 0 b.looked b.retry h.done h.follow;
      }

  Settles-later : (b : InProgress) (rest : List Step) → Begins scene history p b rest → Settles scene history p b rest → Settles scene (history ++ more) q b rest
  Settles-later b rest begins h =
      record {
        heard = LookHears-later scene history more b.look begins.looked.bounds h.heard;
        last = h.last;
        ready = All-map (Ready scene.grammar p) (Ready scene.grammar q) rest (λ owed. Ready-later scene.grammar p q owed keeps) h.ready;
        leads = λ grants. Leads-later history more p q b.look.step b.look.own b.after rest keeps begins.looked.bounds (h.leads grants);
      }

pub StageHolds-later : (scene : Scene) (history more : History) (s s' : State) → Keeps s.policy s'.policy → StandingKeeps s.queries.all s'.queries.all → (b : InProgress) (stage : Stage) → StageHolds scene history s b stage → StageHolds scene (history ++ more) s' b stage
StageHolds-later scene history more s s' keeps stands b (Stage.Owing rest) (begins, inl settles) =
    (Begins-later scene history more s.policy s'.policy keeps b rest begins, inl (Settles-later scene history more s.policy s'.policy keeps b rest begins settles))
StageHolds-later scene history more s s' keeps stands b (Stage.Owing rest) (begins, inr to_ask) = (Begins-later scene history more s.policy s'.policy keeps b rest begins, inr to_ask)
StageHolds-later scene history more s s' keeps stands b (Stage.Waiting serial) (begins, waits) =
    let (standing, there, same) = stands serial waits.standing waits.there in
    let bound : waits.number ≤ length history = (rw waits.own at begins.looked.bounds).0 in (
      Begins-later scene history more s.policy s'.policy keeps b [] begins,
      record {
        ask = waits.ask;
        number = waits.number;
        own = waits.own;
        unheard = waits.unheard;
        replied = reply_at-later history more waits.number bound ∙ waits.replied;
        led = waits.led;
        standing = standing;
        there = there;
        same_retry = rw same waits.same_retry;
      },
    )
StageHolds-later scene history more s s' keeps stands b Stage.Looking (begins, heard, again) =
    (Begins-later scene history more s.policy s'.policy keeps b [] begins, LookHears-later scene history more b.look begins.looked.bounds heard, again)

-- A tree

-- the line of the take that has begun
pub record TakeHolds (scene : Scene) (history : History) (s : State) (walked played : Situations) (items left : List Item) (b : InProgress) : Type 0 where
  pub pid : ℕ
  pub line : left ≡ Item.Do pid b.request ∷ items
  pub now : b.now ≡ played pid
  pub before : (played pid).domain ≡ Some b.before
  pub low : ℕ
  pub rises : RisesTo history (walked pid).floor b.looked low
  pub floor : low ≤ b.look.version
  pub stage : StageHolds scene history s b b.stage
  pub fewer : MayRetry scene b
  pub busy : Busy b.stage

-- the walk stands at the next line, or at that of the take that has begun
abbrev pub BegunHolds : Scene → History → State → Situations → Situations → List Item → List Item → Option InProgress → Type 0
BegunHolds scene history s walked played items left None = left ≡ items
BegunHolds scene history s walked played items left (Some b) = TakeHolds scene history s walked played items left b

-- a tree that has ended did so once, after all that it has seen, and has nothing left to do
abbrev pub EndsAs : ℕ → History → List Case → List Item → Option InProgress → Bool → Type 0
EndsAs t history done items begun false = places (is_end t) history ≡ []
EndsAs t history done items begun true =
    (end : ℕ) × (places (is_end t) history ≡ end ∷ []) × AllByRecursion (λ (c : Case). AllByRecursion (λ version. version < end) (flat_map seen c.taken.looks)) done × (begun ≡ None) × (do_pids items ≡ [])

pub record WayHolds (scene : Scene) (history : History) (s : State) (t : ℕ) (tree : Tree) (way : Way) : Type 0 where
  pub walked : Situations
  pub done : List Case
  pub left : List Item
  pub cases : (more : List Take) → tree_cases t (at_start scene.policy tree) tree.records (way.takes ++ more) ≡ done ++ tree_cases t walked left more
  pub pids : map (λ (k : Take). k.pid) way.takes ++ do_pids left ≡ do_pids tree.records
  pub agree : AllAgree s.policy (length history) walked way.at
  pub requests : list_all (item_is_request scene.grammar.is_path) left ≡ true
  pub ended : AllByRecursion (IsLegalTake scene history) done
  pub numbered_so : AllByRecursion (λ (c : Case). c.tree ≡ t) done
  pub taken : map (λ (c : Case). c.taken) done ≡ way.takes
  pub begun : BegunHolds scene history s walked way.at way.items left way.begun
  pub over : EndsAs t history done way.items way.begun (is_over t s.ended)

module _ (scene : Scene) (history : History) (step : Step) (r : Reply) (s s' : State) (on : Onward step s s') where
  BegunHolds-later : (walked played : Situations) (items left : List Item) (o : Option InProgress) → BegunHolds scene history s walked played items left o → BegunHolds scene (history ++ (step, r) ∷ []) s' walked played items left o
  BegunHolds-later walked played items left None h = h
  BegunHolds-later walked played items left (Some b) h =
      record {
        pid = h.pid;
        line = h.line;
        now = h.now;
        before = h.before;
        low = h.low;
        rises = RisesTo-later history ((step, r) ∷ []) (walked h.pid).floor b.looked h.low h.rises;
        floor = h.floor;
        stage = StageHolds-later scene history ((step, r) ∷ []) s s' on.evolves.keeps on.standing b b.stage h.stage;
        fewer = h.fewer;
        busy = h.busy;
      }

  EndsAs-later : (t : ℕ) (done : List Case) (items : List Item) (begun : Option InProgress) (b : Bool) → is_end t step ≡ false → EndsAs t history done items begun b → EndsAs t (history ++ (step, r) ∷ []) done items begun b
  EndsAs-later t done items begun false other h = places-other (is_end t) history step r other ∙ h
  EndsAs-later t done items begun true other (end, is, all, idle, empty) = (end, places-other (is_end t) history step r other ∙ is, all, idle, empty)

  -- a tree whose end is told
  pub WayHolds-onward : (t : ℕ) (tree : Tree) (way : Way) → (h : WayHolds scene history s t tree way) → EndsAs t (history ++ (step, r) ∷ []) h.done way.items way.begun (is_over t s'.ended) → WayHolds scene (history ++ (step, r) ∷ []) s' t tree way
  WayHolds-onward t tree way h over =
      record {
        walked = h.walked;
        done = h.done;
        left = h.left;
        cases = h.cases;
        pids = h.pids;
        agree = AllAgree-later s.policy s'.policy (length history) (length (history ++ (step, r) ∷ [])) h.walked way.at on.evolves.keeps (longer history ((step, r) ∷ [])) h.agree;
        requests = h.requests;
        ended = All-map (IsLegalTake scene history) (IsLegalTake scene (history ++ (step, r) ∷ [])) h.done (IsLegalTake-later scene history ((step, r) ∷ [])) h.ended;
        numbered_so = h.numbered_so;
        taken = h.taken;
        begun = BegunHolds-later h.walked way.at way.items h.left way.begun h.begun;
        over = over;
      }

  -- a tree whose end the step isn't
  pub WayHolds-later : (t : ℕ) (tree : Tree) (way : Way) → is_end t step ≡ false → WayHolds scene history s t tree way → WayHolds scene (history ++ (step, r) ∷ []) s' t tree way
  WayHolds-later t tree way other h = WayHolds-onward t tree way h (rw (on.over t other) (EndsAs-later t h.done way.items way.begun (is_over t s.ended) other h.over))

-- Lines that are passed

-- a tree that has ended has no request left, however its lines are written
pub EndsAs-same : (t : ℕ) (history : History) (done : List Case) (items items' : List Item) (begun : Option InProgress) (b : Bool) → do_pids items' ≡ do_pids items → EndsAs t history done items begun b → EndsAs t history done items' begun b
EndsAs-same t history done items items' begun false same h = h
EndsAs-same t history done items items' begun true same (end, is, all, idle, empty) = (end, is, all, idle, same ∙ empty)

module _ (scene : Scene) (history : History) (s : State) (t : ℕ) (tree : Tree) (takes : List Take) where
  -- a tree before these lines, with no take begun
  abbrev pub Stands : Situations → List Item → Type 0
  Stands at items = WayHolds scene history s t tree (record { at = at; items = items; begun = None; takes = takes })

  pass-ids : (at : Situations) (pid : ℕ) (ids : Ids) (items : List Item) → Stands at (Item.Ids pid ids ∷ items) → Stands (with_situation at pid (with_ids (at pid) ids)) items
  unfolding tree_cases
  pass-ids at pid ids items h =
      let a = h.agree pid in
      record {
        walked = with_situation h.walked pid (with_ids (h.walked pid) ids);
        done = h.done;
        left = items;
        cases = λ more. rw h.begun at (h.cases more);
        pids = rw h.begun at h.pids;
        agree = AllAgree-with s.policy (length history) h.walked at pid (with_ids (h.walked pid) ids) (with_ids (at pid) ids)
            (record { process = rw a.process refl; domain = a.domain; floor = a.floor; pid_is = a.pid_is; number = a.number; numbered = a.numbered; there = a.there })
            h.agree;
        requests = rw h.begun at h.requests;
        ended = h.ended;
        numbered_so = h.numbered_so;
        taken = h.taken;
        begun = refl;
        over = EndsAs-same t history h.done (Item.Ids pid ids ∷ items) items None (is_over t s.ended) refl h.over;
      }

  pass-fork : (at : Situations) (pid child : ℕ) (items : List Item) → Stands at (Item.Fork pid child ∷ items) → Stands (with_situation at child (forked (at pid) child)) items
  unfolding tree_cases
  pass-fork at pid child items h =
      let a = h.agree pid in
      record {
        walked = with_situation h.walked child (forked (h.walked pid) child);
        done = h.done;
        left = items;
        cases = λ more. rw h.begun at (h.cases more);
        pids = rw h.begun at h.pids;
        agree = AllAgree-with s.policy (length history) h.walked at child (forked (h.walked pid) child) (forked (at pid) child)
            (record { process = rw a.process refl; domain = a.domain; floor = a.floor; pid_is = refl; number = a.number; numbered = a.numbered; there = a.there })
            h.agree;
        requests = rw h.begun at h.requests;
        ended = h.ended;
        numbered_so = h.numbered_so;
        taken = h.taken;
        begun = refl;
        over = EndsAs-same t history h.done (Item.Fork pid child ∷ items) items None (is_over t s.ended) refl h.over;
      }

  -- `ids` and `fork` lines are passed
  pub passed-holds : (at : Situations) (items : List Item) → Stands at items → Stands (passed scene.grammar at items).0 (passed scene.grammar at items).1
  passed-holds at [] h = h
  passed-holds at (Item.Ids pid ids ∷ items) h = passed-holds (with_situation at pid (with_ids (at pid) ids)) items (pass-ids at pid ids items h)
  passed-holds at (Item.Fork pid child ∷ items) h = passed-holds (with_situation at child (forked (at pid) child)) items (pass-fork at pid child items h)
  passed-holds at (Item.Do pid request ∷ items) h = h
