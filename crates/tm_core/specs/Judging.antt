-- What a look shows: the verdict on a request at a state, and the audit text that goes with it.
use Rattle.std.specs.Prelude.{◌≡◌, ℕ, suc, Option, Some, option_map, List, [], ◌∷◌, ◌++◌, length}
use Rattle.std.specs.Option.{option_and_then}
use Rattle.tm_rules.specs.Types.{Look, Proc, Request, Verdict}
use Rattle.tm_rules.specs.Prelude.{audit_text}
use Rattle.tm_audit.specs.Tomoyo.{tomoyo_grammar}
use Rattle.tm_legal.specs.Prelude.{InProgress, Situation, State, Way, going_on}
use Rattle.tm_machine.specs.Machine.{Course}
use Rattle.tm_take.specs.declared.requests.PendingLook.{PendingLook}
use Rattle.tm_take.specs.Looking.{verdict_at}
use Rattle.tm_take.specs.Situations.{situation_of}
use Rattle.tm_take.specs.Taking.{begun_with}
use Rattle.tm_take.specs.declared.judged.Judged.{Judged}

-- the verdict, where there is one, with its audit text
abbrev pub judged : State → ℕ → Proc → Request → Option Judged
judged s d process request =
    option_map
    (λ (v : Verdict). record {
      verdict = v;
      audit = audit_text tomoyo_grammar s.policy d process request v;
    })
    (verdict_at s d process request)

-- the take that a look of a process begins at a machine's newest version
abbrev pub looked : Course → Situation → Request → ℕ → List Look → Option InProgress
looked course now request retry before =
    option_and_then
    (λ d. option_map
    (λ (j : Judged).
    begun_with tomoyo_grammar (length course.made) now d request retry before j.verdict j.audit)
    (judged course.state d now.process request))
    now.domain

-- the same of a look that is about to be made
abbrev pub begun_by : Course → PendingLook → Option InProgress
begun_by course pending =
    looked course (situation_of pending.now) pending.request pending.retry pending.looked

-- the first look of a request
abbrev pub first_looked : Course → Situation → Request → Option InProgress
first_looked course now request = looked course now request 0 []

-- the next look of a take that has heard `retry`
abbrev pub looked_again : Course → InProgress → Option InProgress
looked_again course b =
    looked course b.now b.request (suc b.retry) (b.looked ++ b.look ∷ [])

-- the take that was begun goes on, or ends
abbrev pub GoesOn : Option InProgress → Way → Way → Type 0
GoesOn begun old new =
    (b : InProgress) → begun ≡ Some b → new ≡ going_on tomoyo_grammar old b
