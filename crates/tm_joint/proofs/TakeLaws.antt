-- The events of a take that a worker plays: each at a history that has grown by others' steps since
-- the one before.
use Rattle.std.proofs.Common.{◌≡◌, ◌≤◌, ℕ, suc, List, [], ◌∷◌, ◌++◌, length, true, refl, sym, ap, ◌∙◌, subst, arith, inl, inr, append_assoc, append-nil}
use Rattle.std.specs.Prelude.{Some, IsSome, flat_map}
use Rattle.std.specs.List.{AllByRecursion}
use Rattle.std.proofs.lemmas.Grind.{flat_map-append}
use Rattle.tm_word.specs.Prelude.{Text}
use Rattle.tm_rules.specs.Types.{Answered, Held, Look, Reply, Request, Step, Verdict}
use Rattle.tm_rules.specs.Prelude.{Grammar, IsGrammar, answer_of, is_request}
use Rattle.tm_legal.specs.Prelude.{Applied, Begins, Case, DomainIn, FollowsTo, History, InProgress, IsJudged, IsLegalTake, IsOpened, LookDone, Player, Scene, Settles, Situation, Stage, StageHolds, State, ToAsk, after_answer, after_step, apply, look_at, newest, own_numbers, raised, seen, subject_now, taken}
use Rattle.tm_legal.proofs.Kept.{DomainIn-later, Keeps, Fits, ready-fits}
use Rattle.tm_legal.proofs.Histories.{raised-le, state_at-newest}
use Rattle.tm_legal.proofs.Walks.{RisesTo-later, RisesTo-push, StageHolds-later}
use Rattle.tm_legal.proofs.Takes.{Sane, Looks, look-holds, Stepped, next-holds, with_step, ended-leads, take-done}
use Rattle.tm_legal.proofs.Hears.{held-holds, nobody-holds, answer-holds, again-done, again-follows}
use Rattle.tm_legal.proofs.Onward.{own-onward, Asks, ask-done}
use Rattle.tm_legal.proofs.Fitting.{is-judged, stage-fits}
use Rattle.tm_joint.specs.UnderWay.{IsReplied, JudgedBy, begun_at, IsUnderWay, own_so_far}
use Rattle.tm_joint.proofs.Growing.{newest-push, sound-now, history-grows}

-- the newest version's verdict
abbrev pub JudgedNow : Scene → History → ℕ → Situation → Request → Verdict → Type 0
JudgedNow scene history d now request v =
    JudgedBy scene.grammar (newest scene history) d now request v

-- the take that a look at the newest version begins, or goes on with
abbrev pub begun_now : Scene → History → Situation → ℕ → Request → ℕ → List Look → Verdict
    → InProgress
begun_now scene history now d request retry looked v =
    begun_at scene.grammar (length history) (newest scene history) now d request retry looked v

-- a history as a player's
abbrev at_history : Scene → History → Player
at_history scene history = record { state = newest scene history; steps = history; ways = []; scripts = [] }

same_some : {A : Type 0} (x y : A) → Some x ≡ Some y → x ≡ y
same_some x y e = cc

last-of : {A : Type 0} (P : A → Type 0) (xs : List A) (x : A) → AllByRecursion P (xs ++ x ∷ []) → P x
last-of P [] x all = all.0
last-of P (y ∷ xs) x all = last-of P xs x all.1

module _ (scene : Scene) (grammar : IsGrammar scene.grammar) (opened : IsOpened scene.policy) where
  -- Others' steps

  -- a take stays under way while others make steps
  pub take-grows : (history more : History) (floor : ℕ) (b : InProgress) → IsReplied scene (history ++ more) → IsUnderWay scene history floor b → IsUnderWay scene (history ++ more) floor b
  take-grows history more floor b replied h =
      let grown = history-grows scene grammar opened history more replied in
      record {
        domain = h.domain;
        there = DomainIn-later (newest scene history).policy (newest scene (history ++ more)).policy b.before grown.keeps h.there;
        asked = h.asked;
        low = h.low;
        rises = RisesTo-later history more floor b.looked h.low h.rises;
        above = h.above;
        stage = StageHolds-later scene history more (newest scene history) (newest scene (history ++ more)) grown.keeps grown.standing b b.stage h.stage;
      }

  -- a domain that is there stays
  pub domain-grows : (history more : History) (d : ℕ) → IsReplied scene (history ++ more) → DomainIn (newest scene history).policy d → DomainIn (newest scene (history ++ more)).policy d
  domain-grows history more d replied there =
      DomainIn-later (newest scene history).policy (newest scene (history ++ more)).policy d (history-grows scene grammar opened history more replied).keeps there

  -- A look

  -- there is a verdict on each request of a process whose domain is there
  pub is-judged-now : (history : History) (now : Situation) (d : ℕ) (request : Request) → now.domain ≡ Some d → DomainIn (newest scene history).policy d → is_request scene.grammar.is_path request ≡ true → IsJudged scene.grammar (newest scene history) now request
  is-judged-now history now d request domain there asked = is-judged scene.grammar (newest scene history) now d request grammar (sound-now scene grammar opened history) there domain asked

  looks-now : (history : History) (now : Situation) (d : ℕ) (request : Request) (retry : ℕ) (looked : List Look) (v : Verdict) → IsReplied scene history → now.domain ≡ Some d → DomainIn (newest scene history).policy d → is_request scene.grammar.is_path request ≡ true → AllByRecursion (LookDone scene history (record { domain = d; process = now.process; request = request })) looked → FollowsTo history 0 looked retry → JudgedNow scene history d now request v → (let b : InProgress = begun_now scene history now d request retry looked v in StageHolds scene history (newest scene history) b b.stage)
  unfolding look_at
  looks-now history now d request retry looked v replied domain there asked done follow judged =
      let player : Player = at_history scene history in
      let sane : Sane scene player = record { true_to = record { state = refl; replies = replied }; sound = sound-now scene grammar opened history } in
      let looks : Looks scene player now request retry looked d = look-holds scene player now request retry looked d grammar sane domain there asked done follow in
      let is : look_at scene.grammar player now request retry looked ≡ Some (begun_now scene history now d request retry looked v) = rw (domain, judged) refl in
      let same : begun_now scene history now d request retry looked looks.verdict ≡ begun_now scene history now d request retry looked v = same_some _ _ (sym looks.is ∙ is) in
      subst (λ (b : InProgress). StageHolds scene history (newest scene history) b b.stage) same looks.stage

  -- the first look begins a take, from any floor that is no newer
  pub take-begins : (history : History) (floor : ℕ) (now : Situation) (d : ℕ) (request : Request) (v : Verdict) → IsReplied scene history → floor ≤ length history → now.domain ≡ Some d → DomainIn (newest scene history).policy d → is_request scene.grammar.is_path request ≡ true → JudgedNow scene history d now request v → IsUnderWay scene history floor (begun_now scene history now d request 0 [] v)
  take-begins history floor now d request v replied le domain there asked judged =
      record { domain = domain; there = there; asked = asked; low = floor; rises = refl; above = le; stage = looks-now history now d request 0 [] v replied domain there asked tt refl judged }

  -- Own steps

  -- a step that is owed fits
  pub owed-fits : (history : History) (floor : ℕ) (b : InProgress) (step : Step) (rest : List Step) → IsUnderWay scene history floor b → b.stage ≡ Stage.Owing (step ∷ rest) → IsSome (apply scene.grammar (newest scene history) step).reply
  owed-fits history floor b step rest h is =
      stage-fits scene history (newest scene history) grammar (sound-now scene grammar opened history) b (Stage.Owing (step ∷ rest)) h.there h.domain h.asked (subst (StageHolds scene history (newest scene history) b) is h.stage)

  -- the take after a step, which has noted its number
  goes-on : (history : History) (floor : ℕ) (step : Step) (r : Reply) (b b' : InProgress) → Keeps (newest scene history).policy (newest scene (history ++ (step, r) ∷ [])).policy → b'.now ≡ b.now → b'.before ≡ b.before → b'.request ≡ b.request → b'.looked ≡ b.looked → b'.look.version ≡ b.look.version → IsUnderWay scene history floor b → StageHolds scene (history ++ (step, r) ∷ []) (newest scene (history ++ (step, r) ∷ [])) b' b'.stage → IsUnderWay scene (history ++ (step, r) ∷ []) floor b'
  goes-on history floor step r b b' keeps now before request looked version h stage =
      record {
        domain = rw (now, before) h.domain;
        there = rw before (DomainIn-later (newest scene history).policy (newest scene (history ++ (step, r) ∷ [])).policy b.before keeps h.there);
        asked = rw request h.asked;
        low = h.low;
        rises = rw looked (RisesTo-later history ((step, r) ∷ []) floor b.looked h.low h.rises);
        above = rw version h.above;
        stage = stage;
      }

  -- a Learn, a Make or a Fail
  own-made : (history : History) (floor : ℕ) (b : InProgress) (step : Step) (rest : List Step) (r : Reply) → (apply scene.grammar (newest scene history) step).reply ≡ Some r → IsUnderWay scene history floor b → Begins scene history (newest scene history).policy b (step ∷ rest) → Settles scene history (newest scene history).policy b (step ∷ rest) → IsUnderWay scene (history ++ (step, r) ∷ []) floor (after_step scene.grammar b rest (suc (length history)) r)
  own-made history floor b step rest r replied h begins settles =
      subst (λ (reply : Reply). IsUnderWay scene (history ++ (step, reply) ∷ []) floor (after_step scene.grammar b rest (suc (length history)) reply)) (same_some fits.reply r (sym fits.replied ∙ replied))
      (rw steps.is
      (goes-on history floor step fits.reply b (with_step b (suc (length history)) steps.led rest) (rw (newest-push scene history step fits.reply) fits.evolves.keeps) refl refl refl refl refl h (rw (newest-push scene history step fits.reply) steps.stage)))
    where
      s : State
      s = newest scene history

      done : Applied
      done = apply scene.grammar s step

      fits : Fits s step done
      fits = ready-fits scene.grammar s step (sound-now scene grammar opened history) settles.ready.0

      steps : Stepped scene history done.state b rest fits.reply step
      steps = next-holds scene history s done.state b rest step fits.reply (own-onward s step done fits) fits.answers begins settles

  -- an Ask: it is held, or nobody is there
  ask-made : (history : History) (floor : ℕ) (b : InProgress) (text : Text) (r : Reply) → (let step : Step = Step.Ask b.before b.retry text in (apply scene.grammar (newest scene history) step).reply ≡ Some r → IsUnderWay scene history floor b → Begins scene history (newest scene history).policy b (step ∷ []) → ToAsk scene b (step ∷ []) → IsUnderWay scene (history ++ (step, r) ∷ []) floor (after_step scene.grammar b [] (suc (length history)) r))
  ask-made history floor b text r replied h begins to_ask =
      subst (λ (reply : Reply). IsUnderWay scene (history ++ (step, reply) ∷ []) floor (after_step scene.grammar b [] (suc (length history)) reply)) (same_some (Reply.Ask asks.held) r (sym asks.replied ∙ replied)) (by_held asks.held refl)
    where
      s : State
      s = newest scene history

      step : Step
      step = Step.Ask b.before b.retry text

      done : Applied
      done = apply scene.grammar s step

      asks : Asks s step b.retry done
      asks = ask-done scene.grammar s b.before b.retry text (sound-now scene grammar opened history) h.there

      by_held : (held : Held) → asks.held ≡ held → IsUnderWay scene (history ++ (step, Reply.Ask held) ∷ []) floor (after_step scene.grammar b [] (suc (length history)) (Reply.Ask held))
      by_held (Held.Serial serial) e =
          let query = asks.query serial e in
          goes-on history floor step (Reply.Ask (Held.Serial serial)) b (after_step scene.grammar b [] (suc (length history)) (Reply.Ask (Held.Serial serial))) (rw (newest-push scene history step (Reply.Ask (Held.Serial serial))) asks.onward.evolves.keeps) refl refl refl refl refl h
          (rw (newest-push scene history step (Reply.Ask (Held.Serial serial))) (held-holds scene history step s done.state b serial query.0 asks.onward begins to_ask query.1 query.2))
      by_held Held.Nobody e =
          goes-on history floor step (Reply.Ask Held.Nobody) b (after_step scene.grammar b [] (suc (length history)) (Reply.Ask Held.Nobody)) (rw (newest-push scene history step (Reply.Ask Held.Nobody)) asks.onward.evolves.keeps) refl refl refl refl refl h
          (rw (newest-push scene history step (Reply.Ask Held.Nobody)) (nobody-holds scene history step s done.state b asks.onward begins to_ask))

  -- a step that is owed is made at the newest version, and has this reply
  pub take-makes : (history : History) (floor : ℕ) (b : InProgress) (step : Step) (rest : List Step) (r : Reply) → b.stage ≡ Stage.Owing (step ∷ rest) → (apply scene.grammar (newest scene history) step).reply ≡ Some r → IsUnderWay scene history floor b → IsUnderWay scene (history ++ (step, r) ∷ []) floor (after_step scene.grammar b rest (suc (length history)) r)
  take-makes history floor b step rest r is replied h = by_need (subst (StageHolds scene history (newest scene history) b) is h.stage)
    where
      by_need : StageHolds scene history (newest scene history) b (Stage.Owing (step ∷ rest)) → IsUnderWay scene (history ++ (step, r) ∷ []) floor (after_step scene.grammar b rest (suc (length history)) r)
      by_need (begins, inl settles) = own-made history floor b step rest r replied h begins settles
      by_need (begins, inr to_ask) = asked step rest to_ask.text to_ask.is replied begins to_ask
        where
          asked : (owed : Step) (others : List Step) (text : Text) → owed ∷ others ≡ Step.Ask b.before b.retry text ∷ [] → (apply scene.grammar (newest scene history) owed).reply ≡ Some r → Begins scene history (newest scene history).policy b (owed ∷ others) → ToAsk scene b (owed ∷ others) → IsUnderWay scene (history ++ (owed, r) ∷ []) floor (after_step scene.grammar b others (suc (length history)) r)
          asked owed others text e has started to_be =
              let first : owed ≡ Step.Ask b.before b.retry text = cc in
              let none : others ≡ [] = cc in
              rw (first, none) (ask-made history floor b text r (rw first at has) h (rw e at started) (rw e at to_be))

  -- Answers

  -- the answer of its query is heard at the newest version
  pub take-hears : (history : History) (floor : ℕ) (b : InProgress) (serial : ℕ) (answer : Answered) → b.stage ≡ Stage.Waiting serial → answer_of (newest scene history).queries serial ≡ Some answer → IsUnderWay scene history floor b → IsUnderWay scene history floor (after_answer scene.grammar b (length history) answer)
  take-hears history floor b serial answer is has h = by_answer answer has
    where
      held : StageHolds scene history (newest scene history) b (Stage.Waiting serial)
      held = subst (StageHolds scene history (newest scene history) b) is h.stage

      stage : (a : Answered) → answer_of (newest scene history).queries serial ≡ Some a → (let b' : InProgress = after_answer scene.grammar b (length history) a in StageHolds scene history (newest scene history) b' b'.stage)
      stage a e = answer-holds scene history (newest scene history) (state_at-newest scene history) b h.there serial a held.0 held.1 e

      by_answer : (a : Answered) → answer_of (newest scene history).queries serial ≡ Some a → IsUnderWay scene history floor (after_answer scene.grammar b (length history) a)
      by_answer Answered.Yes e = record { domain = h.domain; there = h.there; asked = h.asked; low = h.low; rises = h.rises; above = h.above; stage = stage Answered.Yes e }
      by_answer Answered.No e = record { domain = h.domain; there = h.there; asked = h.asked; low = h.low; rises = h.rises; above = h.above; stage = stage Answered.No e }
      by_answer Answered.Retry e = record { domain = h.domain; there = h.there; asked = h.asked; low = h.low; rises = h.rises; above = h.above; stage = stage Answered.Retry e }
      by_answer Answered.Detached e = record { domain = h.domain; there = h.there; asked = h.asked; low = h.low; rises = h.rises; above = h.above; stage = stage Answered.Detached e }

  -- Another look

  -- after a retry there is a verdict again
  pub again-judged : (history : History) (floor : ℕ) (b : InProgress) → IsUnderWay scene history floor b → IsJudged scene.grammar (newest scene history) b.now b.request
  again-judged history floor b h = is-judged-now history b.now b.before b.request h.domain h.there h.asked

  -- it looks again at the newest version
  pub take-looks-again : (history : History) (floor : ℕ) (b : InProgress) (v : Verdict) → IsReplied scene history → b.stage ≡ Stage.Looking → JudgedNow scene history b.before b.now b.request v → IsUnderWay scene history floor b → IsUnderWay scene history floor (begun_now scene history b.now b.before b.request (suc b.retry) (b.looked ++ b.look ∷ []) v)
  take-looks-again history floor b v replied is judged h =
      let held : StageHolds scene history (newest scene history) b Stage.Looking = subst (StageHolds scene history (newest scene history) b) is h.stage in
      let (begins, heard, again) = held in
      let done : AllByRecursion (LookDone scene history (subject_now b)) (b.looked ++ b.look ∷ []) = again-done scene history (newest scene history) b begins heard in
      let sees : AllByRecursion (λ k. k ≤ length history) (seen b.look) = (last-of (LookDone scene history (subject_now b)) b.looked b.look done).sees in
      let version : b.look.version ≤ length history = begins.looked.version in
      record {
        domain = h.domain;
        there = h.there;
        asked = h.asked;
        low = raised h.low (seen b.look);
        rises = RisesTo-push history floor b.looked h.low b.look h.above version h.rises;
        above = raised-le h.low (length history) (seen b.look) (omega (arith, h.above)) sees;
        stage = looks-now history b.now b.before b.request (suc b.retry) (b.looked ++ b.look ∷ []) v replied h.domain h.there h.asked done (again-follows scene history (newest scene history) b begins again) judged;
      }

  -- The end

  -- a take that owes nothing is legal, and its process is in a domain that is there
  pub take-ends : (history : History) (t : ℕ) (walked : Situation) (b : InProgress) → b.stage ≡ Stage.Owing [] → walked.process ≡ b.now.process → walked.domain ≡ b.now.domain → IsUnderWay scene history walked.floor b → (let c : Case = record { tree = t; now = walked; request = b.request; taken = taken scene.grammar b } in IsLegalTake scene history c × DomainIn (newest scene history).policy c.taken.after)
  take-ends history t walked b is process domain h = by_need (subst (StageHolds scene history (newest scene history) b) is h.stage)
    where
      by_need : StageHolds scene history (newest scene history) b (Stage.Owing []) → (let c : Case = record { tree = t; now = walked; request = b.request; taken = taken scene.grammar b } in IsLegalTake scene history c × DomainIn (newest scene history).policy c.taken.after)
      by_need (begins, inl settles) = (
        take-done scene history (newest scene history).policy t walked h.low b process (domain ∙ h.domain) h.rises h.above h.there begins settles,
        (ended-leads scene history (newest scene history).policy b h.there settles).1,
      )
      by_need (begins, inr to_ask) = absurd (let none : [] ≡ Step.Ask b.before b.retry to_ask.text ∷ [] = to_ask.is in cc)

-- The numbers of its own steps

own-is : (b : InProgress) → own_so_far b ≡ flat_map (λ (look : Look). look.own) b.looked ++ b.look.own
own-is b =
    let f : Look → List ℕ = λ look. look.own in
    flat_map-append f b.looked (b.look ∷ []) ∙ ap (λ (ns : List ℕ). flat_map f b.looked ++ ns) (append-nil b.look.own)

own-pushed : (b b' : InProgress) (n : ℕ) → b'.looked ≡ b.looked → b'.look.own ≡ b.look.own ++ n ∷ [] → own_so_far b' ≡ own_so_far b ++ n ∷ []
own-pushed b b' n looked own =
    own-is b' ∙ rw (looked, own) (sym (append_assoc (flat_map (λ (look : Look). look.own) b.looked) b.look.own (n ∷ []))) ∙ ap (λ (ns : List ℕ). ns ++ n ∷ []) (sym (own-is b))

own-same : (b b' : InProgress) → b'.looked ≡ b.looked → b'.look.own ≡ b.look.own → own_so_far b' ≡ own_so_far b
own-same b b' looked own = own-is b' ∙ rw (looked, own) refl ∙ sym (own-is b)

-- one more with each step
pub own-makes : (g : Grammar) (b : InProgress) (rest : List Step) (n : ℕ) (r : Reply) → own_so_far (after_step g b rest n r) ≡ own_so_far b ++ n ∷ []
own-makes g b rest n (Reply.Ask (Held.Serial serial)) = own-pushed b (after_step g b rest n (Reply.Ask (Held.Serial serial))) n refl refl
own-makes g b rest n (Reply.Ask Held.Nobody) = own-pushed b (after_step g b rest n (Reply.Ask Held.Nobody)) n refl refl
own-makes g b rest n (Reply.Make made) = own-pushed b (after_step g b rest n (Reply.Make made)) n refl refl
own-makes g b rest n (Reply.Learn r) = own-pushed b (after_step g b rest n (Reply.Learn r)) n refl refl
own-makes g b rest n (Reply.Fail r) = own-pushed b (after_step g b rest n (Reply.Fail r)) n refl refl
own-makes g b rest n (Reply.Answer r) = own-pushed b (after_step g b rest n (Reply.Answer r)) n refl refl
own-makes g b rest n (Reply.Attach r) = own-pushed b (after_step g b rest n (Reply.Attach r)) n refl refl
own-makes g b rest n (Reply.Detach r) = own-pushed b (after_step g b rest n (Reply.Detach r)) n refl refl
own-makes g b rest n (Reply.Edit r) = own-pushed b (after_step g b rest n (Reply.Edit r)) n refl refl
own-makes g b rest n Reply.End = own-pushed b (after_step g b rest n Reply.End) n refl refl

pub own-hears : (g : Grammar) (b : InProgress) (version : ℕ) (answer : Answered) → own_so_far (after_answer g b version answer) ≡ own_so_far b
own-hears g b version Answered.Yes = own-same b (after_answer g b version Answered.Yes) refl refl
own-hears g b version Answered.No = own-same b (after_answer g b version Answered.No) refl refl
own-hears g b version Answered.Retry = own-same b (after_answer g b version Answered.Retry) refl refl
own-hears g b version Answered.Detached = own-same b (after_answer g b version Answered.Detached) refl refl

pub own-looks-again : (g : Grammar) (b : InProgress) (version : ℕ) (s : State) (v : Verdict) → own_so_far (begun_at g version s b.now b.before b.request (suc b.retry) (b.looked ++ b.look ∷ []) v) ≡ own_so_far b
own-looks-again g b version s v =
    own-is (begun_at g version s b.now b.before b.request (suc b.retry) (b.looked ++ b.look ∷ []) v) ∙ append-nil (own_so_far b)

-- those of its take
pub own-ends : (g : Grammar) (b : InProgress) → own_numbers (taken g b ∷ []) ≡ own_so_far b
own-ends g b = append-nil (own_so_far b)
