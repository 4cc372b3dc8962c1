-- What turns do to the code's player, each in one word.
use Rattle.std.specs.Prelude.{◌≡◌, ℕ, Bool, List}
use Rattle.tm_rules.specs.Prelude.{Trace}
use Rattle.tm_rules.specs.Types.{Book, Made, Turn}
use Rattle.tm_audit.specs.Tomoyo.{tomoyo_grammar}
use Rattle.tm_legal.specs.Prelude.{Legal, Plays, Scene, event, final_policy, player_event, run_of, start_of, turns}
use Rattle.tm_core.specs.declared.player.Player as code
use Rattle.tm_core.specs.Moves.{AddsAtMost, IsMadeBy}
use Rattle.tm_core.specs.Players.{course_of, player_of}
use Rattle.tm_core.specs.Rounds.{HasPlayed, IsOver}
use Rattle.tm_core.specs.Scenes.{scene_of, Answers, IsReached, IsLed}

-- the scene that it plays with this trace and this book
abbrev pub scene_at : {R : Type 0} → code.Player R → Trace → Book → Scene
scene_at player trace book = scene_of (course_of player).start trace book

-- its opening stays
abbrev pub SameStart : {R : Type 0} → code.Player R → code.Player R → Type 0
SameStart old new = (course_of new).start ≡ (course_of old).start

-- Where turns have led it

-- turns of that scene have led to it
abbrev pub Reached : {R : Type 0} → Trace → Book → code.Player R → Type 0
Reached trace book player = IsReached trace book (course_of player) (player_of player)

-- for some trace
abbrev pub ReachedBy : {R : Type 0} → Book → code.Player R → Type 0
ReachedBy book player = (trace : Trace) × Reached trace book player

-- for some trace and some book
abbrev pub ReachedSomehow : {R : Type 0} → code.Player R → Type 0
ReachedSomehow player = (trace : Trace) × (book : Book) × Reached trace book player

-- further turns with this book
abbrev pub StaysReached : {R : Type 0} → Book → code.Player R → code.Player R → Type 0
StaysReached book old new = (trace : Trace) → Reached trace book old → Reached trace book new

-- further turns, whatever the book
abbrev pub StaysReachedAnyhow : {R : Type 0} → code.Player R → code.Player R → Type 0
StaysReachedAnyhow old new =
    (trace : Trace) (book : Book) → Reached trace book old → Reached trace book new

-- turns of its own have led to it, whatever the supervisor has answered
abbrev pub Led : {R : Type 0} → code.Player R → Type 0
Led player =
    (trace : Trace) × (book : Book) × IsLed trace book (course_of player) (player_of player)

-- further turns of its own
abbrev pub StaysLed : {R : Type 0} → code.Player R → code.Player R → Type 0
StaysLed old new =
    (trace : Trace) (book : Book) → IsLed trace book (course_of old) (player_of old)
    → IsLed trace book (course_of new) (player_of new)

-- One turn

-- it has had the event of a turn of its own, or there is none and it is as before
abbrev pub OwnTurn : {R : Type 0} → Turn → Bool → code.Player R → code.Player R → Type 0
OwnTurn turn moved old new =
    Answers moved (player_event tomoyo_grammar (player_of old) (course_of old).start.desk turn)
    (player_of new) (player_of old)

-- the same of a turn of a schedule, which is the desk's by this book
abbrev pub ScheduledTurn : {R : Type 0} → Book → Turn → Bool → code.Player R → code.Player R
    → Type 0
ScheduledTurn book turn moved old new =
    (trace : Trace)
    → Answers moved (event (scene_at old trace book) (player_of old) turn)
    (player_of new) (player_of old)

-- the same of a tree's turn, whatever the book
abbrev pub TreeTurn : {R : Type 0} → ℕ → Bool → code.Player R → code.Player R → Type 0
TreeTurn number moved old new =
    (trace : Trace) (book : Book)
    → Answers moved (event (scene_at old trace book) (player_of old) (Turn.Tree number))
    (player_of new) (player_of old)

-- no step was added, or one of such a maker
abbrev pub AddsStep : {R : Type 0} → (Made → Type 0) → code.Player R → code.Player R → Type 0
AddsStep By old new = AddsAtMost By (course_of old) (course_of new)

-- no step was added, or one of the maker of this turn
abbrev pub AddsStepOf : {R : Type 0} → Turn → code.Player R → code.Player R → Type 0
AddsStepOf turn old new = AddsStep (IsMadeBy turn (player_of old)) old new

-- Turns one after another

-- these turns were played, and whether one had an event
abbrev pub TurnsPlayed : {R : Type 0} → Book → List Turn → Bool → code.Player R → code.Player R
    → Type 0
TurnsPlayed book list moved old new =
    (trace : Trace) → Reached trace book old
    → HasPlayed (scene_at old trace book) (player_of old) (player_of new) list moved

-- the same, whatever the book
abbrev pub TurnsPlayedAnyhow : {R : Type 0} → List Turn → Bool → code.Player R → code.Player R
    → Type 0
TurnsPlayedAnyhow list moved old new =
    (trace : Trace) (book : Book) → Reached trace book old
    → HasPlayed (scene_at old trace book) (player_of old) (player_of new) list moved

-- rounds of the default order were played until nobody can move
abbrev pub RoundsPlayed : {R : Type 0} → Book → code.Player R → code.Player R → Type 0
RoundsPlayed book old new =
    (trace : Trace) → Reached trace book old
    → IsOver (scene_at old trace book) (player_of old) (player_of new)

-- A whole play

-- this schedule was played, and then rounds until nobody can move
abbrev pub PlayedOut : {R : Type 0} → Book → List Turn → code.Player R → code.Player R → Type 0
PlayedOut book schedule old new =
    (trace : Trace) → Reached trace book old
    → IsOver (scene_at old trace book) (turns (scene_at old trace book) (player_of old) schedule)
    (player_of new)

-- from its beginning on: a run of which this holds
abbrev pub FromStart : {R : Type 0} → Book → code.Player R → (Scene → Type 0) → Type 0
FromStart book old Holds =
    (trace : Trace) → Reached trace book old → player_of old ≡ start_of (scene_at old trace book)
    → Holds (scene_at old trace book)

-- its run is the play of this schedule
abbrev pub PlaysSchedule : {R : Type 0} → Book → List Turn → code.Player R → code.Player R → Type 0
PlaysSchedule book schedule old new =
    FromStart book old (λ scene. Plays scene schedule (run_of (player_of new)))

-- its run is legal
abbrev pub PlaysLegally : {R : Type 0} → Book → code.Player R → code.Player R → Type 0
PlaysLegally book old new = FromStart book old (λ scene. Legal scene (run_of (player_of new)))

-- its policy is the last one of its run
abbrev pub EndsWithPolicy : {R : Type 0} → Book → code.Player R → code.Player R → Type 0
EndsWithPolicy book old new =
    FromStart book old
    (λ scene. final_policy scene (run_of (player_of new)) ≡ (course_of new).state.policy)
