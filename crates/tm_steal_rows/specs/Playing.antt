-- What a worker plays of a trace: takes of `do` lines, whichever processes it has taken from
-- others, and the trees' Ends.
use Rattle.std.specs.Prelude.{◌≡◌, ⊤, ◌≤◌, ℕ, suc, List, [], ◌∷◌, ◌++◌, length, map, flat_map, Some}
use Rattle.std.specs.List.{AllByRecursion}
use Rattle.tm_rules.specs.Types.{Made, Maker, Request, Start, Step}
use Rattle.tm_rules.specs.Prelude.{Trace}
use Rattle.tm_legal.specs.Prelude.{own_numbers, seen}
use Rattle.tm_made.specs.Made.{made_step}
use Rattle.tm_take.specs.Situations.{situation_of}
use Rattle.tm_seat.specs.Seats.{Begins, MadeBy}
use Rattle.tm_seat.specs.Playing.{TakeIsLegal, LooksSince, Rises}
use Rattle.tm_seat.specs.Rows.{Shift}
use Rattle.tm_seat.specs.Parts.{Deed, ClaimedBy}
use Rattle.tm_steal_rows.specs.declared.played.Played.{Played}
use Rattle.tm_steal_rows.specs.declared.played.PlayedTake.{PlayedTake}
use Rattle.tm_steal_rows.specs.Records.{request_at}

-- What was played

-- a take is legal by a list for the request at its place, wherever the walk has its process, if only
-- it stands as it did when the take began, with a floor that was known then
pub record TakeIsPlayed (start : Start) (trace : Trace) (list : List Made) (played : PlayedTake) : Type 0 where
  pub request : Request
  pub asked : request_at trace played.place ≡ Some request
  pub known : List Made
  pub since : length known ≡ played.since
  pub legal : TakeIsLegal start known list (situation_of played.stood) request played.take
  pub pid : played.take.pid ≡ played.stood.process.pid

-- a take that was played, or the End of a tree with its number among all steps
pub data Event : Type 0 where
  Take : PlayedTake → Event
  End : ℕ → ℕ → Event

-- a take was played, or a tree's End was made
abbrev pub IsPlayed : Start → Trace → List Made → Event → Type 0
IsPlayed start trace list (Event.Take played) = TakeIsPlayed start trace list played
IsPlayed start trace list (Event.End tree number) = made_step list number ≡ Some (Step.End tree)

-- the numbers of its steps
abbrev pub own_of : Event → List ℕ
own_of (Event.Take played) = own_numbers (played.take ∷ [])
own_of (Event.End tree number) = number ∷ []

-- the numbers of the steps of all these
abbrev pub all_own : List Event → List ℕ
all_own all = flat_map own_of all

-- who makes its steps
abbrev pub maker_of : Event → Maker
maker_of (Event.Take played) = Maker.Process played.take.pid
maker_of (Event.End tree number) = Maker.Tree tree

-- no look of it is older than that version
abbrev pub IsSince : ℕ → Event → Type 0
IsSince version (Event.Take played) = LooksSince version played.take
IsSince version (Event.End tree number) = ⊤

-- the versions that it has seen
abbrev pub event_seen : Event → List ℕ
event_seen (Event.Take played) = flat_map seen played.take.looks
event_seen (Event.End tree number) = number ∷ []

-- no look of these is older than the floor, or than what those before it have seen
abbrev pub EventsRise : ℕ → List Event → Type 0
EventsRise floor all = Rises IsSince event_seen floor all

-- the events of a process, or that of an End
abbrev pub events_in : Played → List Event
events_in (Played.Process process) = map Event.Take process.takes.items
events_in (Played.End tree number) = Event.End tree number ∷ []

-- the events of all these, one after another
abbrev pub events_of : List Played → List Event
events_of all = flat_map events_in all

-- a take is of the process of this pid
abbrev pub IsTakeOf : ℕ → PlayedTake → Type 0
IsTakeOf pid played = played.stood.process.pid ≡ pid

-- each take of a process is its own
abbrev pub IsOfProcess : Played → Type 0
IsOfProcess (Played.Process process) = AllByRecursion (IsTakeOf process.pid) process.takes.items
IsOfProcess (Played.End tree number) = ⊤

-- Workers

-- a worker that has played these, by what its seat knows and has made
pub record IsStealing (start : Start) (trace : Trace) (shift : Shift) (list : List Made) (own : List ℕ)
    (all : List Event) : Type 0 where
  pub begins : Begins shift.known list
  pub each : AllByRecursion (IsPlayed start trace list) all
  pub made : own ≡ shift.before ++ all_own all
  pub makers : MadeBy (map maker_of all) shift.known shift.before list own
  pub seen : AllByRecursion (λ version. version ≤ length list) (flat_map event_seen all)
  pub rises : EventsRise (length shift.known) all

-- these more
abbrev pub StealsOn : Start → Trace → List Made → List ℕ → List Made → List ℕ → List Event → Type 0
StealsOn start trace old before new own more =
    (shift : Shift) (all : List Event) → IsStealing start trace shift old before all
    → IsStealing start trace shift new own (all ++ more)

-- the Ends of trees in order, where the first tree has number t
abbrev pub ends_from : ℕ → List ℕ → List Event
ends_from t [] = []
ends_from t (number ∷ numbers) = Event.End t number ∷ ends_from (suc t) numbers

-- a worker has played these, each take is its process's, and none of its looks is older than that
-- version, or than what those before have seen
pub record ThiefDid (start : Start) (trace : Trace) (floor : ℕ) (done : Deed Played) : Type 0 where
  pub each : AllByRecursion (IsPlayed start trace done.known) (events_of done.rows)
  pub own_is : done.own ≡ all_own (events_of done.rows)
  pub claims : ClaimedBy (map maker_of (events_of done.rows)) done.known done.own
  pub rises : EventsRise floor (events_of done.rows)
  pub whose : AllByRecursion IsOfProcess done.rows

-- the same, whichever hand it has been given
abbrev pub HandDid : {H : Type 0} → Trace → Start → ℕ → H → Deed Played → Type 0
HandDid trace start floor hand done = ThiefDid start trace floor done
