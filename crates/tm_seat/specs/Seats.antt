-- What a seat knows, and what is made from it.
use Rattle.std.specs.Prelude.{◌≡◌, ℕ, List, [], ◌∷◌, ◌++◌, length, Option, Some}
use Rattle.std.specs.List.{AllByRecursion}
use Rattle.tm_word.specs.Prelude.{Text}
use Rattle.tm_rules.specs.Types.{Book, Made, Maker, Proc, Reply, Request, Start, Verdict}
use Rattle.tm_rules.specs.Prelude.{Trace, audit_text}
use Rattle.tm_take.specs.Looking.{verdict_at}
use Rattle.tm_take.specs.Tomoyo.{tomoyo_grammar}
use Rattle.tm_legal.specs.Prelude.{DomainIn, Replies, Scene, State, apply, opening}
use Rattle.tm_made.specs.Made.{steps_made, told_from, state_made}
use Rattle.tm_joint.specs.Makers.{Claims}
use Rattle.tm_take.specs.declared.judged.Judged.{Judged}

-- a scene with that opening
abbrev pub scene_of : Start → Trace → Option Book → Scene
scene_of start trace book =
    record { grammar = tomoyo_grammar; policy = start.policy; trace = trace; editors = start.editors; book = book }

-- the state after a list
abbrev pub state_of : Start → List Made → State
state_of start list = state_made tomoyo_grammar start list

-- every step of it fits at its place
abbrev pub FitsFrom : Start → List Made → Type 0
FitsFrom start list =
    Replies tomoyo_grammar (opening start) (told_from tomoyo_grammar (opening start) (steps_made list))

-- a list begins another
abbrev pub Begins : List Made → List Made → Type 0
Begins old new = (more : List Made) × (new ≡ old ++ more)

-- a state's audit text for a verdict of it
abbrev pub audit_at : State → ℕ → Proc → Request → Verdict → Option Text
audit_at s domain process request v = audit_text tomoyo_grammar s.policy domain process request v

-- what a look shows of a request in a domain that is there with its profile, at the version after
-- these steps
pub record ShowsAt (start : Start) (list : List Made) (domain : ℕ) (process : Proc) (request : Request) (shown : Judged)
    (version : ℕ) : Type 0 where
  pub there : DomainIn (state_of start list).policy domain
  pub version_is : version ≡ length list
  pub verdict_is : verdict_at (state_of start list) domain process request ≡ Some shown.verdict
  pub audit_is : shown.audit ≡ audit_at (state_of start list) domain process request shown.verdict

-- a step was made last, after others' steps, and has its reply at that place
abbrev pub IsMade : Start → List Made → Made → List Made → Reply → Type 0
IsMade start old made new reply =
    (others : List Made) × (new ≡ (old ++ others) ++ made ∷ [])
    × ((apply tomoyo_grammar (state_of start (old ++ others)) made.step).reply ≡ Some reply)

-- the own steps since are steps of these makers: whoever they all belong to claims them, beside
-- what it claimed before
abbrev pub MadeBy : List Maker → List Made → List ℕ → List Made → List ℕ → Type 0
MadeBy makers old before new own =
    (who : Maker → Option ℕ) (i : ℕ) → AllByRecursion (λ maker. who maker ≡ Some i) makers
    → Claims who i old before → Claims who i new own
