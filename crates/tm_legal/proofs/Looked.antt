-- One look and its own steps, as far as they are made, by the history.
use Rattle.std.proofs.Common.{◌≡◌, ◌≤◌, ◌<◌, ℕ, suc, List, [], ◌∷◌, ◌++◌, length, map, true, false, true≢false, refl, sym, ap, ◌∙◌, subst, arith, inl, inr, ◌⊎◌, append_assoc, append-nil, le_refl}
use Rattle.std.specs.Prelude.{Option, Some, None, if◌then◌else◌, unwrap_or, IfSome}
use Rattle.std.specs.List.{AllByRecursion}
use Rattle.std.proofs.lemmas.List.{length-append, map-append}
use Rattle.tm_word.specs.Prelude.{Text}
use Rattle.tm_rules.specs.Types.{Answered, Heard, Held, Look, MakeReply, Mode, Move, Policy, Reason, Reply, Step, Verdict}
use Rattle.tm_legal.specs.Prelude.{AfterAnswer, AsksWith, DomainIn, Hears, History, Leads, LineFits, LookDone, LookHears, Looked, NotAsk, Scene, Subject, domain_after, heard_version, is_make, is_yes, last_number, look_grants, made_number, reply_at, retry_written, seen, step_at, steps_asked, steps_of_line, steps_of_move, with_heard}
use Rattle.std.specs.Option.{option_map_or}
use Rattle.tm_legal.proofs.Laws.{state_at-later, LookHolds-later}
use Rattle.tm_legal.proofs.Kept.{DomainIn-later, Keeps}
use Rattle.tm_legal.proofs.Asked.{ask_or_not, ask-line, same_line_steps, All-append}
use Rattle.tm_legal.proofs.Histories.{step_at-later, reply_at-later, step_at-last, reply_at-last, length-push, All-le, All-push, RisesFrom-push, last_number-push, last_number-le, map_step_at-later}

pub longer : (history more : History) → length history ≤ length (history ++ more)
longer history more = rw (length-append history more) (omega arith)

heard_at-later : (n m : ℕ) (heard : Option Heard) → n ≤ m → IfSome heard (λ h. h.version ≤ n) → IfSome heard (λ h. h.version ≤ m)
heard_at-later n m None le h = tt
heard_at-later n m (Some heard) le h = omega (arith, h)

-- the history goes on
pub Looked-later : (scene : Scene) (history more : History) (s : Subject) (retry : ℕ) (look : Look) (v : Verdict) (rest : List Step) (audit : Option Text) → Looked scene history s retry look v rest audit → Looked scene (history ++ more) s retry look v rest audit
Looked-later scene history more s retry look v rest audit h =
    let still = state_at-later scene history more look.version h.version in
    let le : length history ≤ length (history ++ more) = longer history more in
    record {
      judged = rw still h.judged;
      shown = h.shown;
      version = omega (arith, h.version);
      rising = h.rising;
      bounds = All-le (length history) (length (history ++ more)) look.own le h.bounds;
      heard_at = heard_at-later (length history) (length (history ++ more)) look.heard le h.heard_at;
      after_yes = h.after_yes;
      steps = rw (map_step_at-later history more look.own h.bounds) h.steps;
      audited = rw still h.audited;
    }

-- a number above the answer's
pub AfterAnswer-push : (reason : Reason) (heard : Option Heard) (own : List ℕ) (n : ℕ) → IfSome heard (λ h. h.version ≤ n) → AfterAnswer reason heard own → AfterAnswer reason heard (own ++ suc n ∷ [])
AfterAnswer-push Reason.Ask None own n le h = tt
AfterAnswer-push Reason.Ask (Some heard) [] n le h = tt
AfterAnswer-push Reason.Ask (Some heard) (k ∷ own) n le h = All-push (λ number. heard.version < number) own (suc n) h (omega (arith, le))
AfterAnswer-push (Reason.Entry place) heard own n le h = tt
AfterAnswer-push Reason.Disabled heard own n le h = tt
AfterAnswer-push Reason.Permissive heard own n le h = tt
AfterAnswer-push Reason.Quota heard own n le h = tt
AfterAnswer-push Reason.Learn heard own n le h = tt
AfterAnswer-push Reason.NoEntry heard own n le h = tt
AfterAnswer-push Reason.NotReady heard own n le h = tt
AfterAnswer-push Reason.NoManual heard own n le h = tt

-- the next of its own steps is made
pub Looked-step : (scene : Scene) (history : History) (s : Subject) (retry : ℕ) (look : Look) (v : Verdict) (step : Step) (r : Reply) (rest : List Step) (audit : Option Text) → Looked scene history s retry look v (step ∷ rest) audit → Looked scene (history ++ (step, r) ∷ []) s retry (record look { own = look.own ++ suc (length history) ∷ [] }) v rest audit
Looked-step scene history s retry look v step r rest audit h =
    let later = Looked-later scene history ((step, r) ∷ []) s retry look v (step ∷ rest) audit h in
    let number : ℕ = suc (length history) in
    let long = length-push history step r in
    record {
      judged = later.judged;
      shown = record { mode = h.shown.mode; reason = h.shown.reason; move = h.shown.move };
      version = later.version;
      rising = RisesFrom-push look.version (length history) look.own h.rising h.version h.bounds;
      bounds = All-push (λ n. n ≤ length (history ++ (step, r) ∷ [])) look.own number later.bounds (rw long (le_refl (suc (length history))));
      heard_at = later.heard_at;
      after_yes = AfterAnswer-push look.reason look.heard look.own (length history) h.heard_at h.after_yes;
      steps = rw (map-append (step_at (history ++ (step, r) ∷ [])) look.own (number ∷ []), step_at-last history step r, append_assoc) later.steps;
      audited = later.audited;
    }

-- the steps that follow what was heard
abbrev pub moves_after : ℕ → Verdict → Option Heard → List Step
moves_after d v heard = if is_yes heard then steps_of_move d v else []

-- an answer is heard of the one Ask
pub Looked-hears : (scene : Scene) (history : History) (s : Subject) (retry : ℕ) (look : Look) (v : Verdict) (audit : Option Text) (number version : ℕ) (answer : Option Answered) → look.reason ≡ Reason.Ask → look.heard ≡ None → look.own ≡ number ∷ [] → version ≤ length history → Looked scene history s retry look v [] audit → Looked scene history s retry (with_heard scene.grammar look answer version) v (moves_after s.domain v (Some (record { answer = answer; version = version }))) audit
unfolding steps_asked
Looked-hears scene history s retry look v audit number version answer ask none own le h =
    let heard : Heard = record { answer = answer; version = version } in
    let line : List Step = steps_of_line scene.grammar s.domain retry v in
    let quiet : look_grants look ≡ false = rw (ask, none) refl in
    let made : map (step_at history) look.own ++ [] ≡ map Some (line ++ []) = rw quiet at h.steps in
    let alone : map (step_at history) look.own ≡ map Some line = sym (append-nil (map (step_at history) look.own)) ∙ made ∙ ap (map Some) (append-nil line) in
    record {
      judged = h.judged;
      shown = record { mode = h.shown.mode; reason = h.shown.reason; move = h.shown.move };
      version = h.version;
      rising = h.rising;
      bounds = h.bounds;
      heard_at = le;
      after_yes = rw (ask, own) tt;
      steps = rw (ask, map-append Some line (moves_after s.domain v (Some heard)), alone) refl;
      audited = h.audited;
    }

-- What an ended look comes to

-- the retry number is written in its Ask
retry-fields : (history : History) (retry d : ℕ) (text : Text) (version : ℕ) (mode : Option Mode) (reason : Reason) (step : Move) (own : List ℕ) (heard : Option Heard) (more : List Step) → (let look : Look = record { version = version; mode = mode; reason = reason; step = step; own = own; heard = heard } in map (step_at history) own ≡ map Some (Step.Ask d retry text ∷ more) → retry_written history look ≡ retry)
retry-fields history retry d text version mode reason step [] heard more e = absurd cc
retry-fields history retry d text version mode reason step (n ∷ own) heard more e = let first : step_at history n ≡ Some (Step.Ask d retry text) = cc in rw first refl

-- the own steps are those that are asked
abbrev pub AskedSteps : Scene → History → Subject → Look → Verdict → Type 0
AskedSteps scene history s look v = map (step_at history) look.own ≡ map Some (steps_asked scene.grammar s.domain (retry_written history look) v (look_grants look))

pub own-done : (scene : Scene) (history : History) (s : Subject) (retry : ℕ) (look : Look) (v : Verdict) (audit : Option Text) → LineFits scene.grammar v.reason v.line → Looked scene history s retry look v [] audit → AskedSteps scene history s look v × (look.reason ≡ Reason.Ask → retry_written history look ≡ retry)
unfolding steps_asked
own-done scene history s retry look v audit fits h = go (ask_or_not v.reason)
  where
    moves : List Step
    moves = if look_grants look then steps_of_move s.domain v else []

    made : map (step_at history) look.own ≡ map Some (steps_of_line scene.grammar s.domain retry v ++ moves)
    made = sym (append-nil (map (step_at history) look.own)) ∙ h.steps

    go : (v.reason ≡ Reason.Ask) ⊎ NotAsk v.reason → AskedSteps scene history s look v × (look.reason ≡ Reason.Ask → retry_written history look ≡ retry)
    go (inl ask) =
        let (text, is) = ask-line scene.grammar s.domain retry v ask fits in
        let written : retry_written history look ≡ retry = retry-fields history retry s.domain text look.version look.mode look.reason look.step look.own look.heard moves (made ∙ ap (λ line. map Some (line ++ moves)) is) in
        (rw written made, λ asks. written)
    go (inr not) = (
      made ∙ ap (λ line. map Some (line ++ moves)) (same_line_steps scene.grammar s.domain retry (retry_written history look) v.mode v.reason v.name v.step v.target v.line not),
      λ asks. absurd (subst NotAsk (sym h.shown.reason ∙ asks) not),
    )

asks-fields : (history : History) (retry version : ℕ) (mode : Option Mode) (reason : Reason) (step : Move) (own : List ℕ) (heard : Option Heard) → (let look : Look = record { version = version; mode = mode; reason = reason; step = step; own = own; heard = heard } in (reason ≡ Reason.Ask → retry_written history look ≡ retry) → AsksWith history retry look)
asks-fields history retry version mode Reason.Ask step own heard written = written refl
asks-fields history retry version mode (Reason.Entry place) step own heard written = tt
asks-fields history retry version mode Reason.Disabled step own heard written = tt
asks-fields history retry version mode Reason.Permissive step own heard written = tt
asks-fields history retry version mode Reason.Quota step own heard written = tt
asks-fields history retry version mode Reason.Learn step own heard written = tt
asks-fields history retry version mode Reason.NoEntry step own heard written = tt
asks-fields history retry version mode Reason.NotReady step own heard written = tt
asks-fields history retry version mode Reason.NoManual step own heard written = tt

pub asks-with : (history : History) (retry : ℕ) (look : Look) → (look.reason ≡ Reason.Ask → retry_written history look ≡ retry) → AsksWith history retry look
asks-with history retry look written = asks-fields history retry look.version look.mode look.reason look.step look.own look.heard written

-- a look that isn't `ask` and has heard nothing has heard what it should
hears-fields : (scene : Scene) (history : History) (version : ℕ) (mode : Option Mode) (reason : Reason) (step : Move) (own : List ℕ) (heard : Option Heard) → NotAsk reason → heard ≡ None → (let look : Look = record { version = version; mode = mode; reason = reason; step = step; own = own; heard = heard } in LookHears scene history look)
hears-fields scene history version mode Reason.Ask step own heard not_ask none = absurd not_ask
hears-fields scene history version mode (Reason.Entry place) step own heard not_ask none = none
hears-fields scene history version mode Reason.Disabled step own heard not_ask none = none
hears-fields scene history version mode Reason.Permissive step own heard not_ask none = none
hears-fields scene history version mode Reason.Quota step own heard not_ask none = none
hears-fields scene history version mode Reason.Learn step own heard not_ask none = none
hears-fields scene history version mode Reason.NoEntry step own heard not_ask none = none
hears-fields scene history version mode Reason.NotReady step own heard not_ask none = none
hears-fields scene history version mode Reason.NoManual step own heard not_ask none = none

pub hears-none : (scene : Scene) (history : History) (look : Look) → NotAsk look.reason → look.heard ≡ None → LookHears scene history look
hears-none scene history look not_ask none = hears-fields scene history look.version look.mode look.reason look.step look.own look.heard not_ask none

-- a look `ask` has heard what its Ask's reply gives
pub hears-answer : (scene : Scene) (history : History) (version : ℕ) (mode : Option Mode) (reason : Reason) (step : Move) (n : ℕ) (own : List ℕ) (heard : Option Heard) → reason ≡ Reason.Ask → (let look : Look = record { version = version; mode = mode; reason = reason; step = step; own = n ∷ own; heard = heard } in Hears scene history n (reply_at history n) heard → LookHears scene history look)
hears-answer scene history version mode reason step n own heard ask hears = rw ask hears

-- what is heard stays heard
Hears-later : (scene : Scene) (history more : History) (number : ℕ) (o : Option Reply) (heard : Option Heard) → Hears scene history number o heard → Hears scene (history ++ more) number o heard
Hears-later scene history more number (Some (Reply.Ask Held.Nobody)) heard h = h
Hears-later scene history more number (Some (Reply.Ask (Held.Serial serial))) heard (answer, version, is, low, high, has) =
    let le : length history ≤ length (history ++ more) = longer history more in (answer, version, is, low, omega (arith, high), rw (state_at-later scene history more version high) has)
Hears-later scene history more number None heard h = absurd h
Hears-later scene history more number (Some (Reply.Learn r)) heard h = absurd h
Hears-later scene history more number (Some (Reply.Make r)) heard h = absurd h
Hears-later scene history more number (Some (Reply.Fail r)) heard h = absurd h
Hears-later scene history more number (Some (Reply.Answer r)) heard h = absurd h
Hears-later scene history more number (Some (Reply.Attach r)) heard h = absurd h
Hears-later scene history more number (Some (Reply.Detach r)) heard h = absurd h
Hears-later scene history more number (Some (Reply.Edit r)) heard h = absurd h
Hears-later scene history more number (Some Reply.End) heard h = absurd h

hears_later-fields : (scene : Scene) (history more : History) (version : ℕ) (mode : Option Mode) (reason : Reason) (step : Move) (own : List ℕ) (heard : Option Heard) → AllByRecursion (λ n. n ≤ length history) own → (let look : Look = record { version = version; mode = mode; reason = reason; step = step; own = own; heard = heard } in LookHears scene history look → LookHears scene (history ++ more) look)
hears_later-fields scene history more version mode Reason.Ask step [] heard bounds h = absurd h
hears_later-fields scene history more version mode Reason.Ask step (n ∷ own) heard bounds h = rw (reply_at-later history more n bounds.0) (Hears-later scene history more n (reply_at history n) heard h)
hears_later-fields scene history more version mode (Reason.Entry place) step own heard bounds h = h
hears_later-fields scene history more version mode Reason.Disabled step own heard bounds h = h
hears_later-fields scene history more version mode Reason.Permissive step own heard bounds h = h
hears_later-fields scene history more version mode Reason.Quota step own heard bounds h = h
hears_later-fields scene history more version mode Reason.Learn step own heard bounds h = h
hears_later-fields scene history more version mode Reason.NoEntry step own heard bounds h = h
hears_later-fields scene history more version mode Reason.NotReady step own heard bounds h = h
hears_later-fields scene history more version mode Reason.NoManual step own heard bounds h = h

pub LookHears-later : (scene : Scene) (history more : History) (look : Look) → AllByRecursion (λ n. n ≤ length history) look.own → LookHears scene history look → LookHears scene (history ++ more) look
LookHears-later scene history more look bounds h = hears_later-fields scene history more look.version look.mode look.reason look.step look.own look.heard bounds h

retry_later-fields : (history more : History) (version : ℕ) (mode : Option Mode) (reason : Reason) (step : Move) (own : List ℕ) (heard : Option Heard) → AllByRecursion (λ n. n ≤ length history) own → (let look : Look = record { version = version; mode = mode; reason = reason; step = step; own = own; heard = heard } in retry_written (history ++ more) look ≡ retry_written history look)
retry_later-fields history more version mode reason step [] heard bounds = refl
retry_later-fields history more version mode reason step (n ∷ own) heard bounds = rw (step_at-later history more n bounds.0) refl

-- the retry number stays written
pub retry_written-later : (history more : History) (look : Look) → AllByRecursion (λ n. n ≤ length history) look.own → retry_written (history ++ more) look ≡ retry_written history look
retry_written-later history more look bounds = retry_later-fields history more look.version look.mode look.reason look.step look.own look.heard bounds

asks_later-fields : (history more : History) (retry version : ℕ) (mode : Option Mode) (reason : Reason) (step : Move) (own : List ℕ) (heard : Option Heard) → AllByRecursion (λ n. n ≤ length history) own → (let look : Look = record { version = version; mode = mode; reason = reason; step = step; own = own; heard = heard } in AsksWith history retry look → AsksWith (history ++ more) retry look)
asks_later-fields history more retry version mode Reason.Ask step own heard bounds h = retry_later-fields history more version mode Reason.Ask step own heard bounds ∙ h
asks_later-fields history more retry version mode (Reason.Entry place) step own heard bounds h = tt
asks_later-fields history more retry version mode Reason.Disabled step own heard bounds h = tt
asks_later-fields history more retry version mode Reason.Permissive step own heard bounds h = tt
asks_later-fields history more retry version mode Reason.Quota step own heard bounds h = tt
asks_later-fields history more retry version mode Reason.Learn step own heard bounds h = tt
asks_later-fields history more retry version mode Reason.NoEntry step own heard bounds h = tt
asks_later-fields history more retry version mode Reason.NotReady step own heard bounds h = tt
asks_later-fields history more retry version mode Reason.NoManual step own heard bounds h = tt

pub AsksWith-later : (history more : History) (retry : ℕ) (look : Look) → AllByRecursion (λ n. n ≤ length history) look.own → AsksWith history retry look → AsksWith (history ++ more) retry look
AsksWith-later history more retry look bounds h = asks_later-fields history more retry look.version look.mode look.reason look.step look.own look.heard bounds h

heard-seen : (n : ℕ) (heard : Option Heard) → IfSome heard (λ h. h.version ≤ n) → AllByRecursion (λ k. k ≤ n) (heard_version heard)
heard-seen n None h = tt
heard-seen n (Some heard) h = go heard.answer
  where
    go : (o : Option Answered) → AllByRecursion (λ k. k ≤ n) (option_map_or (λ answer. heard.version ∷ []) o [])
    go None = tt
    go (Some answer) = (h, tt)

pub look-done : (scene : Scene) (history : History) (s : Subject) (retry : ℕ) (look : Look) (v : Verdict) (audit : Option Text) → LineFits scene.grammar v.reason v.line → Looked scene history s retry look v [] audit → LookHears scene history look → LookDone scene history s look
look-done scene history s retry look v audit fits h hears =
    record {
      holds = (v, h.judged, h.shown);
      owns = record { asked = rw h.judged (own-done scene history s retry look v audit fits h).0; rising = h.rising; after_yes = h.after_yes };
      hears = hears;
      version = h.version;
      bounds = h.bounds;
      sees = (h.version, All-append (λ n. n ≤ length history) look.own (heard_version look.heard) h.bounds (heard-seen (length history) look.heard h.heard_at));
    }

pub LookDone-later : (scene : Scene) (history more : History) (s : Subject) (look : Look) → LookDone scene history s look → LookDone scene (history ++ more) s look
LookDone-later scene history more s look h =
    let le : length history ≤ length (history ++ more) = longer history more in
    record {
      holds = LookHolds-later scene history more s look h.version h.holds;
      owns = record {
        asked = rw (state_at-later scene history more look.version h.version, map_step_at-later history more look.own h.bounds, retry_written-later history more look h.bounds) h.owns.asked;
        rising = h.owns.rising;
        after_yes = h.owns.after_yes;
      };
      hears = LookHears-later scene history more look h.bounds h.hears;
      version = omega (arith, h.version);
      bounds = All-le (length history) (length (history ++ more)) look.own le h.bounds;
      sees = All-le (length history) (length (history ++ more)) (seen look) le h.sees;
    }

-- Where a look leads

pub Leads-later : (history more : History) (p q : Policy) (move : Move) (own : List ℕ) (led : Option ℕ) (rest : List Step) → Keeps p q → AllByRecursion (λ n. n ≤ length history) own → Leads history p move own led rest → Leads (history ++ more) q move own led rest
Leads-later history more p q Move.Stay own led rest keeps bounds h = h
Leads-later history more p q (Move.Enter n) own led rest keeps bounds h = (h.0, h.1, DomainIn-later p q n keeps h.2)
Leads-later history more p q Move.Make own led rest keeps bounds (inl h) = inl h
Leads-later history more p q Move.Make own led rest keeps bounds (inr h) =
    inr (h.0, h.1, h.2, rw (reply_at-later history more (last_number own) (last_number-le (length history) own bounds)) h.3, DomainIn-later p q h.1 keeps h.4)
Leads-later history more p q Move.Fail own led rest keeps bounds h = h

-- a step that is no Make
pub Leads-other : (history more : History) (p q : Policy) (move : Move) (own : List ℕ) (n : ℕ) (led : Option ℕ) (step : Step) (rest : List Step) → Keeps p q → is_make step ≡ false → Leads history p move own led (step ∷ rest) → Leads (history ++ more) q move (own ++ n ∷ []) led rest
Leads-other history more p q Move.Stay own n led step rest keeps other h = (h.0.1, h.1)
Leads-other history more p q (Move.Enter m) own n led step rest keeps other h = (h.0.1, h.1, DomainIn-later p q m keeps h.2)
Leads-other history more p q Move.Make own n led step [] keeps other (inl h) = absurd (true≢false (sym h ∙ other))
Leads-other history more p q Move.Make own n led step (next ∷ rest) keeps other (inl h) = inl h.1
Leads-other history more p q Move.Make own n led step rest keeps other (inr h) = absurd cc
Leads-other history more p q Move.Fail own n led step rest keeps other h = (h.0.1, h.1)

-- a Make
pub Leads-make : (history : History) (p q : Policy) (move : Move) (own : List ℕ) (led : Option ℕ) (step : Step) (made : MakeReply) (m : ℕ) (rest : List Step) → is_make step ≡ true → made_number (Some (Reply.Make made)) ≡ Some m → DomainIn q m → Leads history p move own led (step ∷ rest) → Leads (history ++ (step, Reply.Make made) ∷ []) q move (own ++ suc (length history) ∷ []) (made_number (Some (Reply.Make made))) rest
Leads-make history p q Move.Stay own led step made m rest make is there h = absurd (true≢false (sym make ∙ h.0.0))
Leads-make history p q (Move.Enter n) own led step made m rest make is there h = absurd (true≢false (sym make ∙ h.0.0))
Leads-make history p q Move.Make own led step made m [] make is there (inl h) =
    inr (refl, m, is, rw (last_number-push own (suc (length history)), reply_at-last history step (Reply.Make made)) is, there)
Leads-make history p q Move.Make own led step made m (next ∷ rest) make is there (inl h) = absurd (true≢false (sym make ∙ h.0))
Leads-make history p q Move.Make own led step made m rest make is there (inr h) = absurd cc
Leads-make history p q Move.Fail own led step made m rest make is there h = absurd (true≢false (sym make ∙ h.0.0))

-- where it has led when nothing is owed
pub leads_into : (history : History) (p : Policy) (before : ℕ) (version : ℕ) (mode : Option Mode) (reason : Reason) (move : Move) (own : List ℕ) (heard : Option Heard) (led : Option ℕ) → (let look : Look = record { version = version; mode = mode; reason = reason; step = move; own = own; heard = heard } in look_grants look ≡ true → DomainIn p before → Leads history p move own led [] → (domain_after history before look ≡ Some (unwrap_or led before)) × DomainIn p (unwrap_or led before))
leads_into history p before version mode reason Move.Stay own heard led grants there h = (rw (grants, h.1) refl, rw h.1 there)
leads_into history p before version mode reason (Move.Enter n) own heard led grants there h = (rw (grants, h.1) refl, rw h.1 h.2)
leads_into history p before version mode reason Move.Make own heard led grants there (inl h) = absurd h
leads_into history p before version mode reason Move.Make own heard led grants there (inr h) = (rw (grants, h.3, h.2) refl, rw h.2 h.4)
leads_into history p before version mode reason Move.Fail own heard led grants there h = (rw (grants, h.1) refl, rw h.1 there)
