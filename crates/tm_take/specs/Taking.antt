-- What a request in progress stands for.
use Rattle.std.specs.Prelude.{◌≡◌, ℕ, suc, List, [], ◌∷◌, ◌++◌, Option, Some, None, if◌then◌else◌}
use Rattle.std.specs.Option.{option_to_list}
use Rattle.tm_word.specs.Prelude.{Text}
use Rattle.tm_take.specs.declared.owing.Owed.{Owed}
use Rattle.tm_take.specs.declared.owing.Awaited.{Awaited}
use Rattle.tm_take.specs.declared.requests.AttemptParts.{AttemptParts}
use Rattle.tm_take.specs.declared.requests.NextEvent.{NextEvent}
use Rattle.tm_take.specs.declared.requests.PendingLook.{PendingLook}
use Rattle.tm_take.specs.Situations.{situation_of}
use Rattle.tm_rules.specs.Types.{Look, Request, Step, Verdict}
use Rattle.tm_rules.specs.Prelude.{Grammar}
use Rattle.tm_legal.specs.Prelude.{InProgress, Situation, Stage, entered, is_granting, steps_of_line, steps_of_move}

-- a list of one, or none, and another one
abbrev pub owed_steps : Owed → List Step
owed_steps owed = option_to_list owed.line ++ option_to_list owed.lead

-- what a take waits for
abbrev pub stage_of : Awaited → Stage
stage_of (Awaited.Steps owed) = Stage.Owing (owed_steps owed)
stage_of (Awaited.Answer serial) = Stage.Waiting serial
stage_of Awaited.Look = Stage.Looking

-- what the parts of a take stand for
abbrev pub in_progress : AttemptParts → InProgress
in_progress parts =
    record {
      now = situation_of parts.now;
      before = parts.before;
      request = parts.request;
      retry = parts.retry;
      looked = parts.looked;
      look = parts.look;
      verdict = parts.verdict;
      audit = parts.audit;
      after = parts.after;
      stage = stage_of parts.awaited;
    }

-- the steps that a take owes; none where it waits for something else
abbrev pub rest_of : Stage → List Step
rest_of (Stage.Owing steps) = steps
rest_of (Stage.Waiting serial) = []
rest_of Stage.Looking = []

-- the serial of the query whose answer a take waits for; none where it waits for something else
abbrev pub serial_of : Stage → Option ℕ
serial_of (Stage.Owing steps) = None
serial_of (Stage.Waiting serial) = Some serial
serial_of Stage.Looking = None

-- the steps that a verdict asks for at once
abbrev pub asked_of : Grammar → ℕ → ℕ → Verdict → List Step
asked_of g before retry v =
    steps_of_line g before retry v ++ (if is_granting v.reason then steps_of_move before v else [])

-- the take that a look with this verdict and this audit text begins
abbrev pub begun_with : Grammar → ℕ → Situation → ℕ → Request → ℕ → List Look → Verdict
    → Option Text → InProgress
begun_with g version now before request retry looked v audit =
    record {
      now = now;
      before = before;
      request = request;
      retry = retry;
      looked = looked;
      look = record {
        version = version;
        mode = v.mode;
        reason = v.reason;
        step = v.step;
        own = [];
        heard = None;
      };
      verdict = v;
      audit = audit;
      after = entered g v.step;
      stage = Stage.Owing (asked_of g before retry v);
    }

-- the stage at which such an event comes next
abbrev pub IsNext : NextEvent → Stage → Type 0
IsNext NextEvent.OwnStep stage =
    (step : Step) × (rest : List Step) × (stage ≡ Stage.Owing (step ∷ rest))
IsNext (NextEvent.Answer serial) stage = stage ≡ Stage.Waiting serial
IsNext NextEvent.Look stage = stage ≡ Stage.Looking
IsNext NextEvent.End stage = stage ≡ Stage.Owing []

-- the first step that a take owes is taken out
pub record TakesOut (b : InProgress) (step : Step) (left : InProgress) : Type 0 where
  pub rest : List Step
  pub owing : b.stage ≡ Stage.Owing (step ∷ rest)
  pub is_left : left ≡ record b { stage = Stage.Owing rest }

-- the next look: for the same process at the same request, the retry number one higher, and the
-- look that the take was at behind those before
pub record LooksAgain (b : InProgress) (next : PendingLook) : Type 0 where
  pub now : situation_of next.now ≡ b.now
  pub request : next.request ≡ b.request
  pub retry : next.retry ≡ suc b.retry
  pub looked : next.looked ≡ b.looked ++ b.look ∷ []
