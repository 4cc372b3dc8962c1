-- A take begins with a look, goes on with each of its own steps and with what it hears, and ends.
use Rattle.std.proofs.Common.{◌≡◌, ◌≤◌, ◌<◌, ℕ, suc, List, [], ◌∷◌, ◌++◌, length, map, Bool, true, false, refl, sym, ap, ◌∙◌, subst, arith, inl, inr, ◌⊎◌, append_assoc, append-nil, le_refl}
use Rattle.std.specs.Prelude.{Option, Some, None, if◌then◌else◌, unwrap_or, flat_map}
use Rattle.std.specs.List.{AllByRecursion, list_all}
use Rattle.std.proofs.lemmas.List.{length-append, map-append}
use Rattle.std.proofs.lemmas.Bool.{and_parts}
use Rattle.tm_rules.specs.Prelude.{DomainName, Grammar, IsGrammar, audit_text, is_request, item_is_request}
use Rattle.tm_rules.specs.Types.{Entry, Heard, Item, Look, Mode, Move, NamePlace, Policy, Reason, Reply, Request, Step, Take, Tree, Verdict}
use Rattle.tm_legal.specs.Prelude.{AfterAnswer, AllAgree, Begins, Case, DomainIn, FollowsTo, History, InProgress, IsLegalTake, Leads, LineFits, LookDone, LookHears, MoveFits, NoMake, NotAsk, Player, Ready, RisesTo, Scene, Settles, Situation, Situations, Stage, StageHolds, State, Subject, ToAsk, Way, after_step, after_take, at_start, do_pids, domain_after, ended_way, entered, going_on, grants_with, is_end, is_granting, is_make, last_look, look_at, look_grants, made_number, opening_of, places, seen, state_at, steps_asked, steps_of_line, steps_of_move, subject_now, subject_of, taken, tree_cases, with_situation}
use Rattle.tm_legal.proofs.Plays.{IsTrueTo}
use Rattle.tm_legal.proofs.Kept.{Sound, Ready-later, RepliesTo}
use Rattle.tm_legal.proofs.Asked.{ask_or_not, ask-line, NoMake-append, EndsMake-append, judged, owed-ready, line-ready, All-append}
use Rattle.tm_legal.proofs.Histories.{raised-le, All-push, state_at-newest}
use Rattle.tm_legal.proofs.Looked.{Looked-step, look-done, own-done, asks-with, hears-none, LookHears-later, Leads-other, Leads-make, leads_into}
use Rattle.tm_legal.proofs.Walks.{AllAgree-with, All-map, RisesTo-ends, FollowsTo-ends, Begins-later, MayRetry, Busy, Onward, is_over, WayHolds}

-- the steps that a verdict asks for at first
abbrev pub owed_by : Scene → ℕ → ℕ → Verdict → List Step
owed_by scene d retry v = steps_of_line scene.grammar d retry v ++ (if is_granting v.reason then steps_of_move d v else [])

-- a tree whose next line's take runs
pub record Running (scene : Scene) (history : History) (s : State) (t : ℕ) (tree : Tree) (at : Situations) (items : List Item) (takes : List Take) (b : InProgress) : Type 0 where
  pub walked : Situations
  pub done : List Case
  pub pid : ℕ
  pub cases : (more : List Take) → tree_cases t (at_start scene.policy tree) tree.records (takes ++ more) ≡ done ++ tree_cases t walked (Item.Do pid b.request ∷ items) more
  pub pids : map (λ (k : Take). k.pid) takes ++ pid ∷ do_pids items ≡ do_pids tree.records
  pub agree : AllAgree s.policy (length history) walked at
  pub requests : list_all (item_is_request scene.grammar.is_path) (Item.Do pid b.request ∷ items) ≡ true
  pub ended : AllByRecursion (IsLegalTake scene history) done
  pub numbered_so : AllByRecursion (λ (c : Case). c.tree ≡ t) done
  pub are_taken : map (λ (c : Case). c.taken) done ≡ takes
  pub now : b.now ≡ at pid
  pub before : (at pid).domain ≡ Some b.before
  pub low : ℕ
  pub rises : RisesTo history (walked pid).floor b.looked low
  pub floor : low ≤ b.look.version
  pub not_over : is_over t s.ended ≡ false
  pub no_end : places (is_end t) history ≡ []

-- The end of a take

-- the domain after, for a take that owes nothing
abbrev pub domain_of : InProgress → ℕ
domain_of b = if look_grants b.look then unwrap_or b.after b.before else b.before

pub ended-leads : (scene : Scene) (history : History) (p : Policy) (b : InProgress) → DomainIn p b.before → Settles scene history p b [] → (domain_after history b.before b.look ≡ Some (domain_of b)) × DomainIn p (domain_of b)
ended-leads scene history p b there h = go (look_grants b.look) refl
  where
    go : (x : Bool) → look_grants b.look ≡ x → (domain_after history b.before b.look ≡ Some (domain_of b)) × DomainIn p (domain_of b)
    go true e = rw e (rw e at (leads_into history p b.before b.look.version b.look.mode b.look.reason b.look.step b.look.own b.look.heard b.after e there (h.leads e)))
    go false e = rw e (refl, there)

same_some : {A : Type 0} (x y : A) → Some x ≡ Some y → x ≡ y
same_some x y e = cc

last_look-push : (looks : List Look) (look : Look) → last_look (looks ++ look ∷ []) ≡ Some look
last_look-push [] look = refl
last_look-push (first ∷ []) look = refl
last_look-push (first ∷ next ∷ looks) look = last_look-push (next ∷ looks) look

pub All-flat : (n : ℕ) (looks : List Look) → AllByRecursion (λ (look : Look). AllByRecursion (λ k. k ≤ n) (seen look)) looks → AllByRecursion (λ k. k ≤ n) (flat_map seen looks)
All-flat n [] h = tt
All-flat n (look ∷ looks) h = All-append (λ k. k ≤ n) (seen look) (flat_map seen looks) h.0 (All-flat n looks h.1)

some-looks : (looks : List Look) (look : Look) → 0 < length (looks ++ look ∷ [])
some-looks looks look = rw (length-append looks (look ∷ [])) (omega arith)

-- a take that owes nothing is legal, where its process is in the domain that it began in and its
-- looks have risen from its process's floor
pub take-done : (scene : Scene) (history : History) (p : Policy) (t : ℕ) (walked : Situation) (low : ℕ) (b : InProgress) → walked.process ≡ b.now.process → walked.domain ≡ Some b.before → RisesTo history walked.floor b.looked low → low ≤ b.look.version → DomainIn p b.before → Begins scene history p b [] → Settles scene history p b [] → IsLegalTake scene history (record { tree = t; now = walked; request = b.request; taken = taken scene.grammar b })
take-done scene history p t walked low b process domain rises above there begins goes =
    let leads = ended-leads scene history p b there goes in
    let last : LookDone scene history (subject_now b) b.look = look-done scene history (subject_now b) b.retry b.look b.verdict b.audit begins.line begins.looked goes.heard in
    let looks : AllByRecursion (LookDone scene history (subject_now b)) (b.looked ++ b.look ∷ []) = All-push (LookDone scene history (subject_now b)) b.looked b.look begins.done last in
    record {
      some = some-looks b.looked b.look;
      before = domain;
      rises = RisesTo-ends history walked.floor b.looked low b.look above begins.looked.version rises;
      looks = rw process looks;
      follows = FollowsTo-ends history 0 b.looked b.retry b.look (asks-with history b.retry b.look (own-done scene history (subject_now b) b.retry b.look b.verdict b.audit begins.line begins.looked).1) goes.last begins.follow;
      ends = rw (last_look-push b.looked b.look, process) (record { granted = refl; domain = leads.0; audit = rw begins.looked.judged begins.looked.audited });
    }

-- all that a legal take has seen is of the history
pub take-sees : (scene : Scene) (history : History) (c : Case) → IsLegalTake scene history c → AllByRecursion (λ n. n ≤ length history) (flat_map seen c.taken.looks)
take-sees scene history c h =
    All-flat (length history) c.taken.looks
    (All-map (LookDone scene history (subject_of c)) (λ (look : Look). AllByRecursion (λ n. n ≤ length history) (seen look)) c.taken.looks (λ look d. d.sees) h.looks)

-- a take that owes nothing ends
pub going-ends : (g : Grammar) (way : Way) (b : InProgress) → b.stage ≡ Stage.Owing [] → going_on g way b ≡ ended_way g way b
going-ends g way b e = rw e refl

-- any other goes on
pub going-on : (g : Grammar) (way : Way) (b : InProgress) (stage : Stage) → b.stage ≡ stage → Busy stage → going_on g way b ≡ record way { begun = Some b }
going-on g way b (Stage.Owing []) e busy = absurd busy
going-on g way b (Stage.Owing (step ∷ rest)) e busy = rw e refl
going-on g way b (Stage.Waiting serial) e busy = rw e refl
going-on g way b Stage.Looking e busy = rw e refl

module _ (scene : Scene) (history : History) (s : State) (t : ℕ) (tree : Tree) where
  take-ends : (way : Way) (b : InProgress) → Running scene history s t tree way.at way.items way.takes b → Begins scene history s.policy b [] → Settles scene history s.policy b [] → WayHolds scene history s t tree (ended_way scene.grammar way b)
  unfolding tree_cases
  take-ends way b h begins goes =
      let k : Take = taken scene.grammar b in
      let a = h.agree h.pid in
      let c : Case = record { tree = t; now = h.walked h.pid; request = b.request; taken = k } in
      let number : a.number ≡ b.before = same_some a.number b.before (sym a.numbered ∙ h.before) in
      let there : DomainIn s.policy b.before = rw number at a.there in
      let leads = ended-leads scene history s.policy b there goes in
      let process : (h.walked h.pid).process ≡ b.now.process = rw h.now a.process in
      let same : b.now.process.pid ≡ h.pid = rw h.now a.pid_is in
      let legal : IsLegalTake scene history c = take-done scene history s.policy t (h.walked h.pid) h.low b process (a.domain ∙ h.before) h.rises h.floor there begins goes in
      let sees : AllByRecursion (λ n. n ≤ length history) (flat_map seen k.looks) = take-sees scene history c legal in
      record {
        walked = with_situation h.walked h.pid (after_take (h.walked h.pid) k);
        done = h.done ++ c ∷ [];
        left = way.items;
        cases = λ more. rw (append_assoc way.takes (k ∷ []) more, append_assoc h.done (c ∷ []) (tree_cases t (with_situation h.walked h.pid (after_take (h.walked h.pid) k)) way.items more)) (h.cases (k ∷ more));
        pids = rw (map-append (λ (m : Take). m.pid) way.takes (k ∷ []), append_assoc (map (λ (m : Take). m.pid) way.takes) (b.now.process.pid ∷ []) (do_pids way.items), same) h.pids;
        agree =
            rw same
            (AllAgree-with s.policy (length history) h.walked way.at h.pid (after_take (h.walked h.pid) k) (record (way.at h.pid) { domain = Some k.after })
            (record { process = a.process; domain = refl; floor = raised-le (h.walked h.pid).floor (length history) (flat_map seen k.looks) a.floor sees; pid_is = a.pid_is; number = k.after; numbered = refl; there = leads.1 })
            h.agree);
        requests = (and_parts (item_is_request scene.grammar.is_path (Item.Do h.pid b.request)) (list_all (item_is_request scene.grammar.is_path) way.items) h.requests).1;
        ended = All-push (IsLegalTake scene history) h.done c h.ended legal;
        numbered_so = All-push (λ (d : Case). d.tree ≡ t) h.done c h.numbered_so refl;
        taken = rw (map-append (λ (d : Case). d.taken) h.done (c ∷ []), h.are_taken) refl;
        begun = refl;
        over = rw h.not_over h.no_end;
      }

  take-stays : (way : Way) (b : InProgress) → Busy b.stage → Running scene history s t tree way.at way.items way.takes b → StageHolds scene history s b b.stage → MayRetry scene b → WayHolds scene history s t tree (going_on scene.grammar way b)
  take-stays way b busy h stage fewer =
      rw (going-on scene.grammar way b b.stage refl busy)
      (record {
        walked = h.walked;
        done = h.done;
        left = Item.Do h.pid b.request ∷ way.items;
        cases = h.cases;
        pids = h.pids;
        agree = h.agree;
        requests = h.requests;
        ended = h.ended;
        numbered_so = h.numbered_so;
        taken = h.are_taken;
        begun = record { pid = h.pid; line = refl; now = h.now; before = h.before; low = h.low; rises = h.rises; floor = h.floor; stage = stage; fewer = fewer; busy = busy };
        over = rw h.not_over h.no_end;
      })

  -- a take goes on, or ends where it owes nothing
  pub take-goes : (way : Way) (b : InProgress) → Running scene history s t tree way.at way.items way.takes b → StageHolds scene history s b b.stage → MayRetry scene b → WayHolds scene history s t tree (going_on scene.grammar way b)
  take-goes way b h stage fewer = go b.stage refl stage
    where
      go : (x : Stage) → b.stage ≡ x → StageHolds scene history s b x → WayHolds scene history s t tree (going_on scene.grammar way b)
      go (Stage.Owing []) e (begins, inl settles) = rw (going-ends scene.grammar way b e) (take-ends way b h begins settles)
      go (Stage.Owing []) e (begins, inr to_ask) = absurd (let none : [] ≡ Step.Ask b.before b.retry to_ask.text ∷ [] = to_ask.is in cc)
      go (Stage.Owing (step ∷ rest)) e held = take-stays way b (subst Busy (sym e) tt) h stage fewer
      go (Stage.Waiting serial) e held = take-stays way b (subst Busy (sym e) tt) h stage fewer
      go Stage.Looking e held = take-stays way b (subst Busy (sym e) tt) h stage fewer

-- A look

-- a look that has heard nothing grants by its reason
pub grants-none : (reason : Reason) → grants_with reason None ≡ is_granting reason
grants-none Reason.Ask = refl
grants-none (Reason.Entry place) = refl
grants-none Reason.Disabled = refl
grants-none Reason.Permissive = refl
grants-none Reason.Quota = refl
grants-none Reason.Learn = refl
grants-none Reason.NoEntry = refl
grants-none Reason.NotReady = refl
grants-none Reason.NoManual = refl

after-none : (reason : Reason) (own : List ℕ) → AfterAnswer reason None own
after-none Reason.Ask own = tt
after-none (Reason.Entry place) own = tt
after-none Reason.Disabled own = tt
after-none Reason.Permissive own = tt
after-none Reason.Quota own = tt
after-none Reason.Learn own = tt
after-none Reason.NoEntry own = tt
after-none Reason.NotReady own = tt
after-none Reason.NoManual own = tt

pub first-leads : (g : Grammar) (history : History) (p : Policy) (d : ℕ) (own : List ℕ) (line : List Step) (mode : Option Mode) (reason : Reason) (name : NamePlace) (step : Move) (target : Option DomainName) (entry : Option Entry) → NoMake line → MoveFits g p d step target → (let v : Verdict = record { mode = mode; reason = reason; name = name; step = step; target = target; line = entry } in Leads history p step own (entered g step) (line ++ steps_of_move d v))
first-leads g history p d own line mode reason name Move.Stay target entry none fits = (NoMake-append line [] none tt, refl)
first-leads g history p d own line mode reason name (Move.Enter n) target entry none fits = (NoMake-append line [] none tt, refl, fits)
first-leads g history p d own line mode reason name Move.Make None entry none fits = absurd cc
first-leads g history p d own line mode reason name Move.Make (Some made) entry none fits = inl (EndsMake-append line d made none)
first-leads g history p d own line mode reason name Move.Fail target entry none fits = (NoMake-append line (Step.Fail d ∷ []) none (refl, tt), refl)

-- How many steps are asked for

line-few : (g : Grammar) (d r : ℕ) (mode : Option Mode) (reason : Reason) (name : NamePlace) (step : Move) (target : Option DomainName) (line : Option Entry) → (let v : Verdict = record { mode = mode; reason = reason; name = name; step = step; target = target; line = line } in length (steps_of_line g d r v) ≤ 1)
line-few g d r mode Reason.Learn name step target (Some line) = omega arith
line-few g d r mode Reason.Learn name step target None = omega arith
line-few g d r mode Reason.Ask name step target (Some line) = omega arith
line-few g d r mode Reason.Ask name step target None = omega arith
line-few g d r mode (Reason.Entry place) name step target line = omega arith
line-few g d r mode Reason.Disabled name step target line = omega arith
line-few g d r mode Reason.Permissive name step target line = omega arith
line-few g d r mode Reason.Quota name step target line = omega arith
line-few g d r mode Reason.NoEntry name step target line = omega arith
line-few g d r mode Reason.NotReady name step target line = omega arith
line-few g d r mode Reason.NoManual name step target line = omega arith

pub move-few : (d : ℕ) (mode : Option Mode) (reason : Reason) (name : NamePlace) (step : Move) (target : Option DomainName) (line : Option Entry) → (let v : Verdict = record { mode = mode; reason = reason; name = name; step = step; target = target; line = line } in length (steps_of_move d v) ≤ 1)
move-few d mode reason name Move.Stay target line = omega arith
move-few d mode reason name (Move.Enter n) target line = omega arith
move-few d mode reason name Move.Make (Some made) line = omega arith
move-few d mode reason name Move.Make None line = omega arith
move-few d mode reason name Move.Fail target line = omega arith

-- a verdict asks for two steps at most
pub owed-few : (scene : Scene) (d r : ℕ) (v : Verdict) → length (owed_by scene d r v) ≤ 2
owed-few scene d r v = go (is_granting v.reason)
  where
    line : length (steps_of_line scene.grammar d r v) ≤ 1
    line = line-few scene.grammar d r v.mode v.reason v.name v.step v.target v.line

    move : length (steps_of_move d v) ≤ 1
    move = move-few d v.mode v.reason v.name v.step v.target v.line

    go : (b : Bool) → length (steps_of_line scene.grammar d r v ++ (if b then steps_of_move d v else [])) ≤ 2
    go true = rw (length-append (steps_of_line scene.grammar d r v) (steps_of_move d v)) (omega (arith, line, move))
    go false = rw (length-append (steps_of_line scene.grammar d r v) []) (omega (arith, line))

-- the take that a look begins, or goes on with
abbrev pub begun_with : Scene → Player → Situation → Request → ℕ → List Look → ℕ → Verdict → InProgress
begun_with scene player now request retry looked d v =
    record {
      now = now;
      before = d;
      request = request;
      retry = retry;
      looked = looked;
      look = record { version = length player.steps; mode = v.mode; reason = v.reason; step = v.step; own = []; heard = None };
      verdict = v;
      audit = audit_text scene.grammar player.state.policy d now.process request v;
      after = entered scene.grammar v.step;
      stage = Stage.Owing (owed_by scene d retry v);
    }

-- what a player keeps, but for its trees
pub record Sane (scene : Scene) (player : Player) : Type 0 where
  pub true_to : IsTrueTo scene.grammar (opening_of scene) player
  pub sound : Sound player.state.policy

-- a look at the newest version
pub record Looks (scene : Scene) (player : Player) (now : Situation) (request : Request) (retry : ℕ) (looked : List Look) (d : ℕ) : Type 0 where
  pub verdict : Verdict
  pub is : look_at scene.grammar player now request retry looked ≡ Some (begun_with scene player now request retry looked d verdict)
  pub stage : StageHolds scene player.steps player.state (begun_with scene player now request retry looked d verdict) (Stage.Owing (owed_by scene d retry verdict))
  pub alone : player.state.queries.attached ≡ false → NotAsk verdict.reason

pub look-holds : (scene : Scene) (player : Player) (now : Situation) (request : Request) (retry : ℕ) (looked : List Look) (d : ℕ) → IsGrammar scene.grammar → Sane scene player → now.domain ≡ Some d → DomainIn player.state.policy d → is_request scene.grammar.is_path request ≡ true → (let s : Subject = record { domain = d; process = now.process; request = request } in AllByRecursion (LookDone scene player.steps s) looked) → FollowsTo player.steps 0 looked retry → Looks scene player now request retry looked d
unfolding look_at steps_asked
look-holds scene player now request retry looked d grammar sane domain there is done follow =
    let p : Policy = player.state.policy in
    let given = judged scene.grammar p player.state.queries.attached d now.process request grammar sane.sound there is in
    let v : Verdict = given.0 in
    let lawful = given.2 in
    let b : InProgress = begun_with scene player now request retry looked d v in
    let newest : state_at scene player.steps (length player.steps) ≡ player.state = state_at-newest scene player.steps ∙ sym sane.true_to.state in
    let begins : Begins scene player.steps p b (owed_by scene d retry v) = record {
      looked = record {
        judged = rw newest given.1;
        shown = record { mode = refl; reason = refl; move = refl };
        version = le_refl (length player.steps);
        rising = tt;
        bounds = tt;
        heard_at = tt;
        after_yes = after-none v.reason [];
        steps = rw (grants-none v.reason) refl;
        audited = rw newest refl;
      };
      line = lawful.line;
      moves = lawful.move;
      done = done;
      follow = follow;
    } in
    record {
      verdict = v;
      is = rw (domain, given.1) refl;
      stage = (begins, settles_or_asks scene player now request retry looked d v there lawful.line lawful.move (ask_or_not v.reason));
      alone = lawful.alone;
    }
  where
    settles_or_asks : (scene : Scene) (player : Player) (now : Situation) (request : Request) (retry : ℕ) (looked : List Look) (d : ℕ) (v : Verdict) → DomainIn player.state.policy d → LineFits scene.grammar v.reason v.line → MoveFits scene.grammar player.state.policy d v.step v.target → (v.reason ≡ Reason.Ask) ⊎ NotAsk v.reason → Settles scene player.steps player.state.policy (begun_with scene player now request retry looked d v) (owed_by scene d retry v) ⊎ ToAsk scene (begun_with scene player now request retry looked d v) (owed_by scene d retry v)
    settles_or_asks scene player now request retry looked d v there line move (inl ask) =
        let asks = ask-line scene.grammar d retry v ask line in
        inr (record { ask = ask; none = refl; unheard = refl; text = asks.0; is = ap (λ (b : Bool). steps_of_line scene.grammar d retry v ++ (if b then steps_of_move d v else [])) (ap is_granting ask) ∙ append-nil (steps_of_line scene.grammar d retry v) ∙ asks.1; led = refl })
    settles_or_asks scene player now request retry looked d v there line move (inr not) =
        inl
        (record {
          heard = hears-none scene player.steps (begun_with scene player now request retry looked d v).look not refl;
          last = refl;
          ready = owed-ready scene.grammar player.state.policy d there retry v not line move (is_granting v.reason);
          leads = λ grants.
              let granting : is_granting v.reason ≡ true = sym (grants-none v.reason) ∙ grants in
              rw granting (first-leads scene.grammar player.steps player.state.policy d [] (steps_of_line scene.grammar d retry v) v.mode v.reason v.name v.step v.target v.line (line-ready scene.grammar player.state.policy d there retry v.mode v.reason v.name v.step v.target v.line not line).1 move);
        })

-- The next own step

-- the take with one own step more
abbrev pub with_step : InProgress → ℕ → Option ℕ → List Step → InProgress
with_step b number led rest = record b { look = record b.look { own = b.look.own ++ number ∷ [] }; after = led; stage = Stage.Owing rest }

-- a look with one own step more has heard the same
heard_step-fields : (scene : Scene) (history more : History) (n version : ℕ) (mode : Option Mode) (reason : Reason) (move : Move) (own : List ℕ) (heard : Option Heard) → (let look : Look = record { version = version; mode = mode; reason = reason; step = move; own = own; heard = heard } in let next : Look = record { version = version; mode = mode; reason = reason; step = move; own = own ++ n ∷ []; heard = heard } in AllByRecursion (λ k. k ≤ length history) own → LookHears scene history look → LookHears scene (history ++ more) next)
heard_step-fields scene history more n version mode Reason.Ask move [] heard bounds h = absurd h
heard_step-fields scene history more n version mode Reason.Ask move (k ∷ own) heard bounds h =
    let look : Look = record { version = version; mode = mode; reason = Reason.Ask; step = move; own = k ∷ own; heard = heard } in LookHears-later scene history more look bounds h
heard_step-fields scene history more n version mode (Reason.Entry place) move own heard bounds h = h
heard_step-fields scene history more n version mode Reason.Disabled move own heard bounds h = h
heard_step-fields scene history more n version mode Reason.Permissive move own heard bounds h = h
heard_step-fields scene history more n version mode Reason.Quota move own heard bounds h = h
heard_step-fields scene history more n version mode Reason.Learn move own heard bounds h = h
heard_step-fields scene history more n version mode Reason.NoEntry move own heard bounds h = h
heard_step-fields scene history more n version mode Reason.NotReady move own heard bounds h = h
heard_step-fields scene history more n version mode Reason.NoManual move own heard bounds h = h

pub record Stepped (scene : Scene) (history : History) (s' : State) (b : InProgress) (rest : List Step) (reply : Reply) (step : Step) : Type 0 where
  pub led : Option ℕ
  pub is : after_step scene.grammar b rest (suc (length history)) reply ≡ with_step b (suc (length history)) led rest
  pub stage : StageHolds scene (history ++ (step, reply) ∷ []) s' (with_step b (suc (length history)) led rest) (Stage.Owing rest)

module _ (scene : Scene) (history : History) (s s' : State) (b : InProgress) (rest : List Step) where
  -- the looks before, and the look with one own step more
  pub step-begins : (step : Step) (reply : Reply) → Onward step s s' → (led : Option ℕ) → Begins scene history s.policy b (step ∷ rest) → Begins scene (history ++ (step, reply) ∷ []) s'.policy (with_step b (suc (length history)) led rest) rest
  step-begins step reply on led h =
      let later = Begins-later scene history ((step, reply) ∷ []) s.policy s'.policy on.evolves.keeps b (step ∷ rest) h in
      record {
        looked = Looked-step scene history (subject_now b) b.retry b.look b.verdict step reply rest b.audit h.looked;
        line = h.line;
        moves = later.moves;
        done = later.done;
        follow = later.follow;
      }

  step-settles : (step : Step) (reply : Reply) → Onward step s s' → (led : Option ℕ) → Begins scene history s.policy b (step ∷ rest) → Settles scene history s.policy b (step ∷ rest) → (look_grants b.look ≡ true → Leads (history ++ (step, reply) ∷ []) s'.policy b.look.step (b.look.own ++ suc (length history) ∷ []) led rest) → Settles scene (history ++ (step, reply) ∷ []) s'.policy (with_step b (suc (length history)) led rest) rest
  step-settles step reply on led begins h leads =
      record {
        heard = heard_step-fields scene history ((step, reply) ∷ []) (suc (length history)) b.look.version b.look.mode b.look.reason b.look.step b.look.own b.look.heard begins.looked.bounds h.heard;
        last = h.last;
        ready = All-map (Ready scene.grammar s.policy) (Ready scene.grammar s'.policy) rest (λ owed. Ready-later scene.grammar s.policy s'.policy owed on.evolves.keeps) h.ready.1;
        leads = leads;
      }

  -- a step that is no Make
  other-holds : (step : Step) (reply : Reply) → Onward step s s' → is_make step ≡ false → after_step scene.grammar b rest (suc (length history)) reply ≡ with_step b (suc (length history)) b.after rest → Begins scene history s.policy b (step ∷ rest) → Settles scene history s.policy b (step ∷ rest) → Stepped scene history s' b rest reply step
  other-holds step reply on other is begins h =
      record {
        led = b.after;
        is = is;
        stage = (
          step-begins step reply on b.after begins,
          inl (step-settles step reply on b.after begins h (λ grants. Leads-other history ((step, reply) ∷ []) s.policy s'.policy b.look.step b.look.own (suc (length history)) b.after step rest on.evolves.keeps other (h.leads grants))),
        );
      }

  -- a step of a process's own
  pub next-holds : (step : Step) (reply : Reply) → Onward step s s' → RepliesTo s'.policy step reply → Begins scene history s.policy b (step ∷ rest) → Settles scene history s.policy b (step ∷ rest) → Stepped scene history s' b rest reply step
  next-holds (Step.Learn d entry) reply on (learned, is) begins h = other-holds (Step.Learn d entry) reply on refl (rw is refl) begins h
  next-holds (Step.Fail d) reply on (new, is) begins h = other-holds (Step.Fail d) reply on refl (rw is refl) begins h
  next-holds (Step.Make d name) reply on (made, m, is, number, there) begins h =
      subst (λ (r : Reply). Stepped scene history s' b rest r (Step.Make d name)) (sym is)
      (record {
        led = made_number (Some (Reply.Make made));
        is = refl;
        stage = (
          step-begins (Step.Make d name) (Reply.Make made) on (made_number (Some (Reply.Make made))) begins,
          inl (step-settles (Step.Make d name) (Reply.Make made) on (made_number (Some (Reply.Make made))) begins h (λ grants. Leads-make history s.policy s'.policy b.look.step b.look.own b.after (Step.Make d name) made m rest refl number there (h.leads grants))),
        );
      })
  next-holds (Step.Ask d retry line) reply on answers begins h = absurd h.ready.0
  next-holds (Step.Answer serial code) reply on answers begins h = absurd h.ready.0
  next-holds Step.Attach reply on answers begins h = absurd h.ready.0
  next-holds Step.Detach reply on answers begins h = absurd h.ready.0
  next-holds (Step.Edit e file line) reply on answers begins h = absurd h.ready.0
  next-holds (Step.End t) reply on answers begins h = absurd h.ready.0
