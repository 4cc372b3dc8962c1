-- The events of a take from a seat, from an opening.
use Rattle.std.proofs.Common.{◌≡◌, le_refl, ℕ, suc, List, [], ◌∷◌, ◌++◌, length, true, refl, sym, ap, ◌∙◌, subst, arith, append_assoc, append-nil}
use Rattle.std.specs.Prelude.{Option, Some, None, IsSome, Result, Ok, Err, IfOk, IfSome}
use Rattle.tm_rules.specs.Types.{Answered, Held, Look, Made, Maker, Reply, Request, Start, Step, Take, Verdict}
use Rattle.tm_take.specs.declared.requests.PendingLook.{PendingLook}
use Rattle.tm_take.specs.declared.situations.ProcessSituation.{ProcessSituation}
use Rattle.tm_take.specs.Situations.{situation_of}
use Rattle.tm_take.specs.Taking.{rest_of, begun_with, TakesOut, LooksAgain}
use Rattle.tm_rules.specs.Prelude.{answer_of, is_request}
use Rattle.tm_take.specs.Tomoyo.{tomoyo_grammar}
use Rattle.tm_legal.specs.Prelude.{DomainIn, InProgress, IsOpened, Situation, Stage, State, after_answer, after_step, apply, taken}
use Rattle.tm_made.specs.Made.{history_made}
use Rattle.tm_joint.specs.UnderWay.{JudgedBy, begun_at, own_so_far}
use Rattle.tm_joint.proofs.TakeLaws.{own-makes, own-hears, own-looks-again, own-ends}
use Rattle.tm_joint.proofs.Later.{looks-above}
use Rattle.tm_take.specs.declared.judged.Judged.{Judged}
use Rattle.tm_seat.specs.Seats.{scene_of, state_of, ShowsAt, FitsFrom, Begins, IsMade}
use Rattle.tm_seat.specs.Playing.{Errand, IsPlaying, PlaysOn, HasEnded}
use Rattle.tm_seat.proofs.Opening.{some-trace, begins-further, state-scene, first-law, fit-law, step-law, hear-law, again-law, again-there, end-law}
use Rattle.tm_seat.proofs.Claiming.{by-later, by-nobody, by-step}

-- a look that is told with other words
begun-same : (version : ℕ) (s s' : State) (now now' : Situation) (d d' : ℕ) (request request' : Request) (retry retry' : ℕ) (looked looked' : List Look) (v : Verdict) → s ≡ s' → now ≡ now' → d ≡ d' → request ≡ request' → retry ≡ retry' → looked ≡ looked' → begun_at tomoyo_grammar version s now d request retry looked v ≡ begun_at tomoyo_grammar version s' now' d' request' retry' looked' v
begun-same version s s' now now' d d' request request' retry retry' looked looked' v a b c e f h = rw (a, b, c, e, f, h) refl

judged-same : (s s' : State) (now now' : Situation) (d d' : ℕ) (request request' : Request) (v : Verdict) → s ≡ s' → now ≡ now' → d ≡ d' → request ≡ request' → JudgedBy tomoyo_grammar s d now request v → JudgedBy tomoyo_grammar s' d' now' request' v
judged-same s s' now now' d d' request request' v a b c e h = rw (a, b, c, e) at h

-- an event leaves what the take is for
pub record SameLine (b next : InProgress) : Type 0 where
  pub now : next.now ≡ b.now
  pub domain : next.before ≡ b.before
  pub request : next.request ≡ b.request

step-line : (b : InProgress) (rest : List Step) (n : ℕ) (r : Reply) → SameLine b (after_step tomoyo_grammar b rest n r)
step-line b rest n (Reply.Ask (Held.Serial serial)) = record { now = refl; domain = refl; request = refl }
step-line b rest n (Reply.Ask Held.Nobody) = record { now = refl; domain = refl; request = refl }
step-line b rest n (Reply.Make made) = record { now = refl; domain = refl; request = refl }
step-line b rest n (Reply.Learn learned) = record { now = refl; domain = refl; request = refl }
step-line b rest n (Reply.Fail new) = record { now = refl; domain = refl; request = refl }
step-line b rest n (Reply.Answer fault) = record { now = refl; domain = refl; request = refl }
step-line b rest n (Reply.Attach new) = record { now = refl; domain = refl; request = refl }
step-line b rest n (Reply.Detach was) = record { now = refl; domain = refl; request = refl }
step-line b rest n (Reply.Edit reply) = record { now = refl; domain = refl; request = refl }
step-line b rest n Reply.End = record { now = refl; domain = refl; request = refl }

answer-line : (b : InProgress) (version : ℕ) (answer : Answered) → SameLine b (after_answer tomoyo_grammar b version answer)
answer-line b version Answered.Yes = record { now = refl; domain = refl; request = refl }
answer-line b version Answered.No = record { now = refl; domain = refl; request = refl }
answer-line b version Answered.Retry = record { now = refl; domain = refl; request = refl }
answer-line b version Answered.Detached = record { now = refl; domain = refl; request = refl }

module _ (start : Start) (opened : IsOpened start.policy) where
  -- the first look
  begins-playing : (start' : Start) (xs zs : List Made) (own own' : List ℕ) (now : Situation) (d : ℕ) (request : Request) (b : InProgress) → now.domain ≡ Some d → DomainIn (state_of start xs).policy d → is_request tomoyo_grammar.is_path request ≡ true → start' ≡ start → Begins xs zs → own' ≡ own → FitsFrom start' zs → (v : Verdict) × JudgedBy tomoyo_grammar (state_of start' zs) d now request v × (b ≡ begun_at tomoyo_grammar (length zs) (state_of start' zs) now d request 0 [] v) → IsPlaying start (record { now = now; domain = d; request = request; known = xs; before = own }) zs own' b
  begins-playing start' xs zs own own' now d request b domain there asked same begins none fitted (v, judged, is) =
      let fits : FitsFrom start zs = subst (λ (s : Start). FitsFrom s zs) same fitted in
      let began : b ≡ begun_at tomoyo_grammar (length zs) (state_of start zs) now d request 0 [] v = subst (λ (s : Start). b ≡ begun_at tomoyo_grammar (length zs) (state_of s zs) now d request 0 [] v) same is in
      let shown : JudgedBy tomoyo_grammar (state_of start zs) d now request v = subst (λ (s : Start). JudgedBy tomoyo_grammar (state_of s zs) d now request v) same judged in
      record {
        fitted = fits;
        begins = begins;
        under_way = λ trace book floor trees le.
            rw (began, begins.1)
            (first-law start opened trace book trees xs begins.0 floor now d request v (rw begins.1 at fits) le domain there asked (rw begins.1 at shown));
        made = rw began (none ∙ sym (append-nil own));
        makers = by-nobody (Maker.Process now.process.pid ∷ []) xs zs own own' begins none;
        now = rw began refl;
        domain = rw began refl;
        request = rw began refl;
      }

  -- the first look in a domain that turns out to be there
  pub found-playing : (start' : Start) (list : List Made) (own own' : List ℕ) (now : ProcessSituation) (d : ℕ) (request : Request) (pending : PendingLook) (shown : Judged) (version : ℕ) (b : InProgress) → pending ≡ record { now = now; request = request; retry = 0; looked = [] } → now.domain ≡ Some d → is_request tomoyo_grammar.is_path request ≡ true → start' ≡ start → own' ≡ own → FitsFrom start' list → ShowsAt start' list d now.process request shown version → b ≡ begun_with tomoyo_grammar version (situation_of pending.now) d pending.request pending.retry pending.looked shown.verdict shown.audit → IsPlaying start (record { now = situation_of now; domain = d; request = request; known = list; before = own }) list own' b
  found-playing start' list own own' now d request pending shown version b first domain asked same none fitted shows is =
      let began : b ≡ begun_with tomoyo_grammar version (situation_of now) d request 0 [] shown.verdict shown.audit = subst (λ (p : PendingLook). b ≡ begun_with tomoyo_grammar version (situation_of p.now) d p.request p.retry p.looked shown.verdict shown.audit) first is in
      let begun : b ≡ begun_at tomoyo_grammar (length list) (state_of start' list) (situation_of now) d request 0 [] shown.verdict = began ∙ rw (shows.version_is, shows.audit_is) refl in
      begins-playing start' list list own own' (situation_of now) d request b domain (subst (λ (s : Start). DomainIn (state_of s list).policy d) same shows.there) asked same ([], sym (append-nil list)) none fitted (shown.verdict, shows.verdict_is, begun)

  -- an own step fits
  pub playing-fits : (errand : Errand) (list : List Made) (own : List ℕ) (b : InProgress) (step : Step) (rest : List Step) → IsPlaying start errand list own b → b.stage ≡ Stage.Owing (step ∷ rest) → IsSome (apply tomoyo_grammar (state_of start list) step).reply
  playing-fits errand list own b step rest h is =
      let some = some-trace start.trees in
      fit-law start opened some.0 None some.1 list 0 b step rest is (h.under_way some.0 None 0 some.1 (omega arith))

  -- and is made
  playing-steps : (start' : Start) (xs zs : List Made) (own own' : List ℕ) (b left b' : InProgress) (step : Step) (made : Made) (number : ℕ) (r : Reply) → start' ≡ start → TakesOut b step left → made.step ≡ step → made.maker ≡ Maker.Process left.now.process.pid → IsMade start xs made zs r → FitsFrom start' zs → number ≡ length zs → own' ≡ own ++ number ∷ [] → b' ≡ after_step tomoyo_grammar left (rest_of left.stage) number r → PlaysOn start xs own b zs own' b'
  playing-steps start' xs zs own own' b left b' step made number r same out is_step is_maker (others, is, replied) fitted numbered noted is_next errand h =
      let fits : FitsFrom start zs = subst (λ (s : Start). FitsFrom s zs) same fitted in
      let next : b' ≡ after_step tomoyo_grammar b out.rest number r = is_next ∙ subst (λ (l : InProgress). after_step tomoyo_grammar l (rest_of l.stage) number r ≡ after_step tomoyo_grammar b out.rest number r) (sym out.is_left) refl in
      let owing : b.stage ≡ Stage.Owing (made.step ∷ out.rest) = rw is_step out.owing in
      let line = step-line b out.rest number r in
      let whose : made.maker ≡ Maker.Process errand.now.process.pid = is_maker ∙ ap (λ (l : InProgress). Maker.Process l.now.process.pid) out.is_left ∙ ap (λ (s : Situation). Maker.Process s.process.pid) h.now in
      record {
        fitted = fits;
        begins = begins-further errand.known xs zs h.begins (others ++ made ∷ [], is ∙ append_assoc xs others (made ∷ []));
        under_way = λ trace book floor trees le.
            rw (next, numbered, is)
            (step-law start opened trace book trees xs others made floor b out.rest r (rw is at fits) owing replied (h.under_way trace book floor trees le));
        made = noted ∙ ap (λ (ns : List ℕ). ns ++ number ∷ []) h.made ∙ append_assoc errand.before (own_so_far b) (number ∷ []) ∙ ap (λ (ns : List ℕ). errand.before ++ ns) (sym (own-makes tomoyo_grammar b out.rest number r) ∙ ap own_so_far (sym next));
        makers = by-step (Maker.Process errand.now.process.pid ∷ []) start errand.known xs zs errand.before own own' made number r (λ P all. subst P (sym whose) all.0) (others, is, replied) numbered noted h.makers;
        now = rw next (line.now ∙ h.now);
        domain = rw next (line.domain ∙ h.domain);
        request = rw next (line.request ∙ h.request);
      }

  -- an answer is heard
  playing-hears : (start' : Start) (xs zs : List Made) (own own' : List ℕ) (b b' : InProgress) (serial version : ℕ) (answer : Answered) → start' ≡ start → Begins xs zs → own' ≡ own → FitsFrom start' zs → b.stage ≡ Stage.Waiting serial → answer_of (state_of start' zs).queries serial ≡ Some answer → version ≡ length zs → b' ≡ after_answer tomoyo_grammar b version answer → PlaysOn start xs own b zs own' b'
  playing-hears start' xs zs own own' b b' serial version answer same begins none fitted is has at next errand h =
      let fits : FitsFrom start zs = subst (λ (s : Start). FitsFrom s zs) same fitted in
      let heard : answer_of (state_of start zs).queries serial ≡ Some answer = subst (λ (s : Start). answer_of (state_of s zs).queries serial ≡ Some answer) same has in
      let line = answer-line b version answer in
      record {
        fitted = fits;
        begins = begins-further errand.known xs zs h.begins begins;
        under_way = λ trace book floor trees le.
            rw (next, at, begins.1)
            (hear-law start opened trace book trees xs begins.0 floor b serial answer (rw begins.1 at fits) is (rw begins.1 at heard) (h.under_way trace book floor trees le));
        made = none ∙ h.made ∙ ap (λ (ns : List ℕ). errand.before ++ ns) (sym (own-hears tomoyo_grammar b version answer) ∙ ap own_so_far (sym next));
        makers = by-later (Maker.Process errand.now.process.pid ∷ []) errand.known xs zs errand.before own own' begins none h.makers;
        now = rw next (line.now ∙ h.now);
        domain = rw next (line.domain ∙ h.domain);
        request = rw next (line.request ∙ h.request);
      }

  -- what another look needs
  pub playing-there : (errand : Errand) (list : List Made) (own : List ℕ) (b : InProgress) → IsPlaying start errand list own b → DomainIn (state_of start list).policy b.before × (is_request tomoyo_grammar.is_path b.request ≡ true)
  playing-there errand list own b h =
      let some = some-trace start.trees in
      again-there start opened some.0 None some.1 list 0 b (h.under_way some.0 None 0 some.1 (omega arith))

  -- another look
  playing-again : (start' : Start) (xs zs : List Made) (own own' : List ℕ) (b b' : InProgress) (pending : PendingLook) (d : ℕ) → start' ≡ start → Begins xs zs → own' ≡ own → FitsFrom start' zs → b.stage ≡ Stage.Looking → d ≡ b.before → LooksAgain b pending → (v : Verdict) × JudgedBy tomoyo_grammar (state_of start' zs) d (situation_of pending.now) pending.request v × (b' ≡ begun_at tomoyo_grammar (length zs) (state_of start' zs) (situation_of pending.now) d pending.request pending.retry pending.looked v) → PlaysOn start xs own b zs own' b'
  playing-again start' xs zs own own' b b' pending d same begins none fitted is domain again (v, judged, is_next) errand h =
      let fits : FitsFrom start zs = subst (λ (s : Start). FitsFrom s zs) same fitted in
      let next : b' ≡ begun_at tomoyo_grammar (length zs) (state_of start zs) b.now b.before b.request (suc b.retry) (b.looked ++ b.look ∷ []) v =
      is_next ∙ begun-same (length zs) (state_of start' zs) (state_of start zs) (situation_of pending.now) b.now d b.before pending.request b.request pending.retry (suc b.retry) pending.looked (b.looked ++ b.look ∷ []) v (ap (λ (s : Start). state_of s zs) same) again.now domain again.request again.retry again.looked in
      let shown : JudgedBy tomoyo_grammar (state_of start zs) b.before b.now b.request v =
      judged-same (state_of start' zs) (state_of start zs) (situation_of pending.now) b.now d b.before pending.request b.request v (ap (λ (s : Start). state_of s zs) same) again.now domain again.request judged in
      record {
        fitted = fits;
        begins = begins-further errand.known xs zs h.begins begins;
        under_way = λ trace book floor trees le.
            rw (next, begins.1)
            (again-law start opened trace book trees xs begins.0 floor b v (rw begins.1 at fits) is (rw begins.1 at shown) (h.under_way trace book floor trees le));
        made = none ∙ h.made ∙ ap (λ (ns : List ℕ). errand.before ++ ns) (sym (own-looks-again tomoyo_grammar b (length zs) (state_of start zs) v) ∙ ap own_so_far (sym next));
        makers = by-later (Maker.Process errand.now.process.pid ∷ []) errand.known xs zs errand.before own own' begins none h.makers;
        now = rw next h.now;
        domain = rw next h.domain;
        request = rw next h.request;
      }

  -- the end
  playing-ends : (errand : Errand) (list : List Made) (own : List ℕ) (b : InProgress) (k : Take) → IsPlaying start errand list own b → errand.now.domain ≡ Some errand.domain → b.stage ≡ Stage.Owing [] → k ≡ taken tomoyo_grammar b → HasEnded start errand list own k
  playing-ends errand list own b k h domain is ended =
      let some = some-trace start.trees in
      let one = end-law start opened some.0 None some.1 list 0 (record b.now { floor = length errand.known }) b is refl refl (h.under_way some.0 None (length errand.known) some.1 (le_refl (length errand.known))) in
      record {
        fitted = h.fitted;
        legal = λ trace book t walked trees process stands low.
            let whose : walked.process ≡ b.now.process = process ∙ ap (λ (s : Situation). s.process) (sym h.now) in
            let where_ : walked.domain ≡ b.now.domain = stands ∙ ap (λ (s : Situation). s.domain) (sym h.now) in
            rw (ended, ← h.request) (end-law start opened trace book trees list t walked b is whose where_ (h.under_way trace book walked.floor trees low)).0;
        there = rw (ended, ← state-scene start opened some.0 None some.1 list) one.1;
        made = h.made ∙ rw ended (ap (λ (ns : List ℕ). errand.before ++ ns) (sym (own-ends tomoyo_grammar b)));
        makers = h.makers;
        fresh = rw ended (looks-above (history_made (scene_of start some.0 None) list) (length errand.known) (length errand.known) (taken tomoyo_grammar b).looks (le_refl (length errand.known)) one.0.rises);
        pid = rw ended (ap (λ (s : Situation). s.process.pid) h.now);
      }

-- the same of what a call gives

module _ (start : Start) (opened : IsOpened start.policy) {E : Type 0} where
  pub begins-ok : (start' : Start) (xs zs : List Made) (own own' : List ℕ) (now : ProcessSituation) (d : ℕ) (request : Request) (pending : PendingLook) (r : Result InProgress E) → pending ≡ record { now = now; request = request; retry = 0; looked = [] } → now.domain ≡ Some d → DomainIn (state_of start xs).policy d → is_request tomoyo_grammar.is_path request ≡ true → start' ≡ start → Begins xs zs → own' ≡ own → IfOk r (λ b. FitsFrom start' zs) → IfOk r (λ b. (v : Verdict) × JudgedBy tomoyo_grammar (state_of start' zs) d (situation_of pending.now) pending.request v × (b ≡ begun_at tomoyo_grammar (length zs) (state_of start' zs) (situation_of pending.now) d pending.request pending.retry pending.looked v)) → IfOk r (λ b. IsPlaying start (record { now = situation_of now; domain = d; request = request; known = xs; before = own }) zs own' b)
  begins-ok start' xs zs own own' now d request pending (Ok b) first domain there asked same begins none fitted looked =
      begins-playing start opened start' xs zs own own' (situation_of now) d request b domain there asked same begins none fitted
      (subst (λ (p : PendingLook). (v : Verdict) × JudgedBy tomoyo_grammar (state_of start' zs) d (situation_of p.now) p.request v × (b ≡ begun_at tomoyo_grammar (length zs) (state_of start' zs) (situation_of p.now) d p.request p.retry p.looked v)) first looked)
  begins-ok start' xs zs own own' now d request pending (Err e) first domain there asked same begins none fitted looked = tt

  pub steps-ok : (start' : Start) (xs zs : List Made) (own own' : List ℕ) (b left : InProgress) (r : Result InProgress E) (step : Step) (made : Made) (number : ℕ) (reply : Reply) → start' ≡ start → TakesOut b step left → made.step ≡ step → made.maker ≡ Maker.Process left.now.process.pid → IsMade start xs made zs reply → FitsFrom start' zs → number ≡ length zs → own' ≡ own ++ number ∷ [] → IfOk r (λ next. next ≡ after_step tomoyo_grammar left (rest_of left.stage) number reply) → IfOk r (λ next. PlaysOn start xs own b zs own' next)
  steps-ok start' xs zs own own' b left (Ok b') step made number reply same out is_step is_maker settled fitted numbered noted is = playing-steps start opened start' xs zs own own' b left b' step made number reply same out is_step is_maker settled fitted numbered noted is
  steps-ok start' xs zs own own' b left (Err e) step made number reply same out is_step is_maker settled fitted numbered noted is = tt

  pub hears-ok : (start' : Start) (xs zs : List Made) (own own' : List ℕ) (b : InProgress) (r : Result InProgress E) (serial version : ℕ) (answer : Answered) → start' ≡ start → Begins xs zs → own' ≡ own → FitsFrom start' zs → b.stage ≡ Stage.Waiting serial → answer_of (state_of start' zs).queries serial ≡ Some answer → version ≡ length zs → IfOk r (λ next. next ≡ after_answer tomoyo_grammar b version answer) → IfOk r (λ next. PlaysOn start xs own b zs own' next)
  hears-ok start' xs zs own own' b (Ok b') serial version answer same begins none fitted is has at next = playing-hears start opened start' xs zs own own' b b' serial version answer same begins none fitted is has at next
  hears-ok start' xs zs own own' b (Err e) serial version answer same begins none fitted is has at next = tt

  pub again-ok : (start' : Start) (xs zs : List Made) (own own' : List ℕ) (b : InProgress) (r : Result InProgress E) (pending : PendingLook) (d : ℕ) → start' ≡ start → Begins xs zs → own' ≡ own → IfOk r (λ next. FitsFrom start' zs) → b.stage ≡ Stage.Looking → d ≡ b.before → LooksAgain b pending → IfOk r (λ next. (v : Verdict) × JudgedBy tomoyo_grammar (state_of start' zs) d (situation_of pending.now) pending.request v × (next ≡ begun_at tomoyo_grammar (length zs) (state_of start' zs) (situation_of pending.now) d pending.request pending.retry pending.looked v)) → IfOk r (λ next. PlaysOn start xs own b zs own' next)
  again-ok start' xs zs own own' b (Ok b') pending d same begins none fitted is domain again looked = playing-again start opened start' xs zs own own' b b' pending d same begins none fitted is domain again looked
  again-ok start' xs zs own own' b (Err e) pending d same begins none fitted is domain again looked = tt

  -- the end, of whatever the take was for
  pub ends-ok : (xs list : List Made) (before own : List ℕ) (first b : InProgress) (r : Result Take E) → PlaysOn start xs before first list own b → b.stage ≡ Stage.Owing [] → IfOk r (λ k. k ≡ taken tomoyo_grammar b) → IfOk r (λ k. (errand : Errand) → errand.now.domain ≡ Some errand.domain → IsPlaying start errand xs before first → HasEnded start errand list own k)
  ends-ok xs list before own first b (Ok k) plays is ended = λ errand domain h. playing-ends start opened errand list own b k (plays errand h) domain is ended
  ends-ok xs list before own first b (Err e) plays is ended = tt

-- a take that has ended for an equal opening
pub ended-same : (start start' : Start) (errand : Errand) (xs list : List Made) (before own : List ℕ) (first : InProgress) (k : Take) → start' ≡ start → errand.now.domain ≡ Some errand.domain → IsPlaying start errand xs before first → ((errand : Errand) → errand.now.domain ≡ Some errand.domain → IsPlaying start' errand xs before first → HasEnded start' errand list own k) → HasEnded start errand list own k
ended-same start start' errand xs list before own first k same domain h ended = subst (λ (s : Start). HasEnded s errand list own k) same (ended errand domain (subst (λ (s : Start). IsPlaying s errand xs before first) (sym same) h))

pub ended-ok : {E : Type 0} (start start' : Start) (errand : Errand) (xs list : List Made) (before own : List ℕ) (first : InProgress) (r : Result Take E) → start' ≡ start → errand.now.domain ≡ Some errand.domain → IsPlaying start errand xs before first → IfOk r (λ k. (errand : Errand) → errand.now.domain ≡ Some errand.domain → IsPlaying start' errand xs before first → HasEnded start' errand list own k) → IfOk r (λ k. HasEnded start errand list own k)
ended-ok start start' errand xs list before own first (Ok k) same domain h ended = ended-same start start' errand xs list before own first k same domain h ended
ended-ok start start' errand xs list before own first (Err e) same domain h ended = tt

-- what holds of what was found
pub found-so : {A : Type 0} (P : A → Type 0) (found : Option A) (x : A) → found ≡ Some x → IfSome found P → P x
found-so P found x is h = subst (λ o. IfSome o P) is h

-- a call that keeps it keeps it for an equal opening
pub carries : (start start' : Start) (errand : Errand) (xs zs : List Made) (own own' : List ℕ) (b b' : InProgress) → start' ≡ start → PlaysOn start' xs own b zs own' b' → IsPlaying start errand xs own b → IsPlaying start errand zs own' b'
carries start start' errand xs zs own own' b b' same keeps = subst (λ (s : Start). PlaysOn s xs own b zs own' b') same keeps errand
