-- A held look: it asks, it waits, it hears, and after a retry it looks again.
use Rattle.std.proofs.Common.{◌≡◌, ◌≤◌, ℕ, suc, [], ◌∷◌, ◌++◌, length, true, false, true≢false, refl, sym, ◌∙◌, subst, inl, le_refl}
use Rattle.std.specs.Prelude.{Option, Some, None}
use Rattle.std.specs.List.{AllByRecursion}
use Rattle.tm_rules.specs.Types.{Answered, Held, Move, Reason, Reply, Step}
use Rattle.tm_rules.specs.Prelude.{Standing, answer_of, numbered}
use Rattle.tm_legal.specs.Prelude.{Begins, DomainIn, FollowsTo, Hears, History, InProgress, Leads, LookDone, LookHears, Scene, Stage, StageHolds, State, ToAsk, Waits, after_answer, entered, is_retry, is_yes, look_grants, reply_at, state_at, steps_of_move, subject_now, with_heard, with_own}
use Rattle.tm_legal.proofs.Asked.{move-ready}
use Rattle.tm_legal.proofs.Histories.{All-push, length-push, reply_at-last}
use Rattle.tm_legal.proofs.Looked.{Looked-hears, look-done, own-done, asks-with, hears-answer, moves_after}
use Rattle.tm_legal.proofs.Walks.{FollowsTo-push, Onward}
use Rattle.tm_legal.proofs.Takes.{first-leads, step-begins, with_step}

-- what was heard of the one Ask of a look
module _ (scene : Scene) (history : History) (s : State) (b : InProgress) (begins : Begins scene history s.policy b []) (ask : b.look.reason ≡ Reason.Ask) (unheard : b.look.heard ≡ None) (number : ℕ) (own : b.look.own ≡ number ∷ []) (answer : Option Answered) (version : ℕ) (le : version ≤ length history) where
  hear-begins : (stage : Stage) → Begins scene history s.policy (record b { look = with_heard scene.grammar b.look answer version; stage = stage }) (moves_after b.before b.verdict (Some (record { answer = answer; version = version })))
  hear-begins stage =
      record {
        looked = Looked-hears scene history (subject_now b) b.retry b.look b.verdict b.audit number version answer ask unheard own le begins.looked;
        line = begins.line;
        moves = begins.moves;
        done = begins.done;
        follow = begins.follow;
      }

  look-hears : Hears scene history number (reply_at history number) (Some (record { answer = answer; version = version })) → LookHears scene history (with_heard scene.grammar b.look answer version)
  look-hears hears = rw own (hears-answer scene history b.look.version b.look.mode b.look.reason b.look.step number [] (Some (record { answer = answer; version = version })) ask hears)

  -- what was heard doesn't grant
  hear-denied : is_yes (Some (record { answer = answer; version = version })) ≡ false → look_grants (with_heard scene.grammar b.look answer version) ≡ true → ⊥
  hear-denied denies grants = true≢false (sym grants ∙ rw ask denies)

-- The Ask

module _ (scene : Scene) (history : History) (step : Step) (s s' : State) (b : InProgress) where
  -- a query is held
  pub held-holds : (serial : ℕ) (standing : Standing) → Onward step s s' → Begins scene history s.policy b (step ∷ []) → ToAsk scene b (step ∷ []) → numbered s'.queries.all serial ≡ Some standing → standing.query.retry ≡ b.retry → StageHolds scene (history ++ (step, Reply.Ask (Held.Serial serial)) ∷ []) s' (record b { look = with_own scene.grammar b.look (suc (length history)); stage = Stage.Waiting serial }) (Stage.Waiting serial)
  held-holds serial standing on begins to_ask there same =
      let next = step-begins scene history s s' b [] step (Reply.Ask (Held.Serial serial)) on b.after begins in (
        record { looked = next.looked; line = next.line; moves = next.moves; done = next.done; follow = next.follow },
        record {
          ask = to_ask.ask;
          number = suc (length history);
          own = rw to_ask.none refl;
          unheard = to_ask.unheard;
          replied = reply_at-last history step (Reply.Ask (Held.Serial serial));
          led = to_ask.led;
          standing = standing;
          there = there;
          same_retry = same;
        },
      )

  -- nobody is there
  pub nobody-holds : Onward step s s' → Begins scene history s.policy b (step ∷ []) → ToAsk scene b (step ∷ []) → StageHolds scene (history ++ (step, Reply.Ask Held.Nobody) ∷ []) s' (record b { look = with_heard scene.grammar (with_own scene.grammar b.look (suc (length history))) None (suc (length history)); stage = Stage.Owing [] }) (Stage.Owing [])
  nobody-holds on begins to_ask =
      let number : ℕ = suc (length history) in
      let history' : History = history ++ (step, Reply.Ask Held.Nobody) ∷ [] in
      let next = step-begins scene history s s' b [] step (Reply.Ask Held.Nobody) on b.after begins in
      let b' : InProgress = with_step b number b.after [] in
      let own : b.look.own ++ number ∷ [] ≡ number ∷ [] = rw to_ask.none refl in
      let le : number ≤ length history' = rw (length-push history step (Reply.Ask Held.Nobody)) (le_refl (suc (length history))) in
      let heard = hear-begins scene history' s' b' next to_ask.ask to_ask.unheard number own None number le (Stage.Owing []) in (
        record { looked = heard.looked; line = heard.line; moves = heard.moves; done = heard.done; follow = heard.follow },
        inl
            (record {
              heard = look-hears scene history' s' b' next to_ask.ask to_ask.unheard number own None number le (rw (reply_at-last history step (Reply.Ask Held.Nobody)) refl);
              last = refl;
              ready = tt;
              leads = λ grants. absurd (hear-denied scene history' s' b' next to_ask.ask to_ask.unheard number own None number le refl grants);
            }),
      )

-- The answer

module _ (scene : Scene) (history : History) (s : State) (newest : state_at scene history (length history) ≡ s) (b : InProgress) (there : DomainIn s.policy b.before) (serial : ℕ) where
  -- an answer is taken at the newest version
  pub answer-holds : (answer : Answered) → Begins scene history s.policy b [] → Waits scene history s.queries.all b serial → answer_of s.queries serial ≡ Some answer → StageHolds scene history s (after_answer scene.grammar b (length history) answer) (after_answer scene.grammar b (length history) answer).stage
  answer-holds answer begins waits has = by_answer answer has
    where
      low : waits.number ≤ length history
      low = (rw waits.own at begins.looked.bounds).0

      le : length history ≤ length history
      le = le_refl (length history)

      given : (a : Answered) → answer_of s.queries serial ≡ Some a → Hears scene history waits.number (reply_at history waits.number) (Some (record { answer = Some a; version = length history }))
      given a is = rw waits.replied (a, length history, refl, low, le, rw newest is)

      hears : (a : Answered) (stage : Stage) → Begins scene history s.policy (record b { look = with_heard scene.grammar b.look (Some a) (length history); stage = stage }) (moves_after b.before b.verdict (Some (record { answer = Some a; version = length history })))
      hears a stage = hear-begins scene history s b begins waits.ask waits.unheard waits.number waits.own (Some a) (length history) le stage

      heard : (a : Answered) → answer_of s.queries serial ≡ Some a → LookHears scene history (with_heard scene.grammar b.look (Some a) (length history))
      heard a is = look-hears scene history s b begins waits.ask waits.unheard waits.number waits.own (Some a) (length history) le (given a is)

      denied : (a : Answered) → is_yes (Some (record { answer = Some a; version = length history })) ≡ false → look_grants (with_heard scene.grammar b.look (Some a) (length history)) ≡ true → ⊥
      denied a = hear-denied scene history s b begins waits.ask waits.unheard waits.number waits.own (Some a) (length history) le

      leads : Leads history s.policy b.look.step b.look.own b.after (steps_of_move b.before b.verdict)
      leads =
          rw waits.led
          (subst (λ (move : Move). Leads history s.policy move b.look.own (entered scene.grammar move) (steps_of_move b.before b.verdict)) (sym begins.looked.shown.move)
          (first-leads scene.grammar history s.policy b.before b.look.own [] b.verdict.mode b.verdict.reason b.verdict.name b.verdict.step b.verdict.target b.verdict.line tt begins.moves))

      by_answer : (a : Answered) → answer_of s.queries serial ≡ Some a → StageHolds scene history s (after_answer scene.grammar b (length history) a) (after_answer scene.grammar b (length history) a).stage
      by_answer Answered.Yes is = (
        hears Answered.Yes (Stage.Owing (steps_of_move b.before b.verdict)),
        inl
            (record {
              heard = heard Answered.Yes is;
              last = refl;
              ready = move-ready scene.grammar s.policy b.before there b.verdict.mode b.verdict.reason b.verdict.name b.verdict.step b.verdict.target b.verdict.line begins.moves;
              leads = λ grants. leads;
            }),
      )
      by_answer Answered.Retry is = (hears Answered.Retry Stage.Looking, heard Answered.Retry is, refl)
      by_answer Answered.No is = (hears Answered.No (Stage.Owing []), inl (record { heard = heard Answered.No is; last = refl; ready = tt; leads = λ grants. absurd (denied Answered.No refl grants) }))
      by_answer Answered.Detached is =
          (hears Answered.Detached (Stage.Owing []), inl (record { heard = heard Answered.Detached is; last = refl; ready = tt; leads = λ grants. absurd (denied Answered.Detached refl grants) }))

-- Another look

-- the looks before another look, and its retry number
pub again-done : (scene : Scene) (history : History) (s : State) (b : InProgress) → Begins scene history s.policy b [] → LookHears scene history b.look → AllByRecursion (LookDone scene history (subject_now b)) (b.looked ++ b.look ∷ [])
again-done scene history s b begins heard =
    All-push (LookDone scene history (subject_now b)) b.looked b.look begins.done (look-done scene history (subject_now b) b.retry b.look b.verdict b.audit begins.line begins.looked heard)

pub again-follows : (scene : Scene) (history : History) (s : State) (b : InProgress) → Begins scene history s.policy b [] → is_retry b.look.heard ≡ true → FollowsTo history 0 (b.looked ++ b.look ∷ []) (suc b.retry)
again-follows scene history s b begins again =
    FollowsTo-push history 0 b.looked b.retry b.look (asks-with history b.retry b.look (own-done scene history (subject_now b) b.retry b.look b.verdict b.audit begins.line begins.looked).1) again begins.follow
