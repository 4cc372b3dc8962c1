-- The hands of workers: what each has put and taken, and its place among the others.
use Rattle.std.specs.Prelude.{◌≡◌, ◌+◌, ℕ, List, [], ◌∷◌, ◌++◌, map, length}
use Rattle.std.specs.List.{AllByRecursion}
use Rattle.tm_share.specs.Weights.{weigh}
use Rattle.tm_share.specs.Deques.{Deque, Own, Way}

-- a hand: the worker's own deque, and its ways into those of all workers
pub record Hand (J : Type 0) : Type 0 where
  pub own : Own J
  pub ways : List (Way J)

-- a hand's place: its own deque, how many ways others have into it, and the deques into which it has a way
pub record Place : Type 0 where
  pub deque : Deque
  pub lent : ℕ
  pub ways : List Deque

-- each place has one way into the deque of each
abbrev pub Sits : ℕ → List Deque → Place → Type 0
Sits workers deques place = (place.lent ≡ workers) × (place.ways ≡ deques)

-- these are the places of all workers
abbrev pub IsPool : List Place → Type 0
IsPool places = AllByRecursion (Sits (length places) (map (λ place. place.deque) places)) places

-- what a worker did with its hand: the jobs that it put, and those that it took
pub record Move (J : Type 0) : Type 0 where
  pub before : Hand J
  pub after : Hand J
  pub put : List J
  pub taken : List J

module _ {J : Type 0} where
  -- what was stolen by these ways
  abbrev pub stolen_by : List (Way J) → List J
  stolen_by [] = []
  stolen_by (way ∷ ways) = way.taken ++ stolen_by ways

  abbrev pub hand : Own J → List (Way J) → Hand J
  hand own ways = record { own = own; ways = ways }

  abbrev pub place : Hand J → Place
  place hand = record { deque = hand.own.deque; lent = hand.own.lent; ways = map (λ way. way.deque) hand.ways }

  abbrev pub workers_of : Hand J → ℕ
  workers_of hand = length hand.ways

  -- the jobs that a hand has put
  abbrev pub put_by : Hand J → List J
  put_by hand = hand.own.put

  -- the jobs that a hand has taken: its own, and those of others
  abbrev pub taken_by : Hand J → List J
  taken_by hand = hand.own.taken ++ stolen_by hand.ways

  -- the hand has put this job, and nothing else has changed
  abbrev pub HasPut : J → Hand J → Hand J → Type 0
  HasPut job old new = (place new ≡ place old) × (put_by new ≡ put_by old ++ job ∷ []) × (taken_by new ≡ taken_by old)

  -- the hand has taken this job, and nothing else has changed
  abbrev pub HasTaken : J → Hand J → Hand J → Type 0
  HasTaken job old new =
      (place new ≡ place old) × (put_by new ≡ put_by old)
      × ((h : J → ℕ) → weigh h (taken_by new) ≡ weigh h (taken_by old) + h job)

  -- the jobs that all hands have put
  abbrev pub all_put : List (Hand J) → List J
  all_put [] = []
  all_put (hand ∷ hands) = put_by hand ++ all_put hands

  -- the jobs that all hands have taken
  abbrev pub all_taken : List (Hand J) → List J
  all_taken [] = []
  all_taken (hand ∷ hands) = taken_by hand ++ all_taken hands

  -- the hand has put and taken these jobs, and nothing else has changed
  abbrev pub HasMoved : List J → List J → Hand J → Hand J → Type 0
  HasMoved put taken old new =
      (place new ≡ place old) × (put_by new ≡ put_by old ++ put)
      × ((h : J → ℕ) → weigh h (taken_by new) ≡ weigh h (taken_by old) + weigh h taken)

  -- each worker has put and taken what its move says
  abbrev pub AreMoved : List (Move J) → Type 0
  AreMoved moves = AllByRecursion (λ m. HasMoved m.put m.taken m.before m.after) moves

  -- the jobs that were put in these moves
  abbrev pub moved_put : List (Move J) → List J
  moved_put [] = []
  moved_put (move ∷ moves) = move.put ++ moved_put moves

  -- the jobs that were taken in these moves
  abbrev pub moved_taken : List (Move J) → List J
  moved_taken [] = []
  moved_taken (move ∷ moves) = move.taken ++ moved_taken moves
