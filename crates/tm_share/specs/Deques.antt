-- A worker's own deque, and a way into another's.
use Rattle.std.specs.Prelude.{◌≡◌, ◌+◌, ◌-◌, ℕ, List, [], ◌∷◌, ◌++◌}
use Rattle.std.specs.Global.{Global}
use Rattle.atomic_blocks.specs.Lent.{RowsId}
use Rattle.crossbeam_deque.specs.Handles.{Pass, view}
use Rattle.tm_share.specs.declared.tally.Tally.{Tally}
use Rattle.tm_share.specs.Weights.{weigh}

-- which deque it is
abbrev pub Deque : Type 0
Deque = RowsId × Global

-- a worker's own deque: how many ways others have into it, and what the worker has put and taken
pub record Own (J : Type 0) : Type 0 where
  pub deque : Deque
  pub lent : ℕ
  pub put : List J
  pub taken : List J

-- a way into a deque, by which this was stolen
pub record Way (J : Type 0) : Type 0 where
  pub deque : Deque
  pub taken : List J

module _ {J : Type 0} where
  -- what a pass knows
  abbrev pub known : Pass J (Tally J) Global → Tally J
  known pass = view pass

  abbrev pub with_put : Own J → J → Own J
  with_put own job = record { deque = own.deque; lent = own.lent; put = own.put ++ job ∷ []; taken = own.taken }

  abbrev pub with_all_taken : Own J → List J → Own J
  with_all_taken own jobs = record { deque = own.deque; lent = own.lent; put = own.put; taken = own.taken ++ jobs }

  abbrev pub with_taken : Own J → J → Own J
  with_taken own job = with_all_taken own (job ∷ [])

  -- the deque once it has lent a way more
  abbrev pub lending : Own J → Own J
  lending own = record { deque = own.deque; lent = own.lent + 1; put = own.put; taken = own.taken }

  -- a way by which nothing was stolen yet
  abbrev pub way_into : Own J → Way J
  way_into own = record { deque = own.deque; taken = [] }

  -- the deque with a way that has come back
  abbrev pub with_way : Own J → Way J → Own J
  with_way own way = record { deque = own.deque; lent = own.lent - 1; put = own.put; taken = own.taken ++ way.taken }

  abbrev pub stolen : Way J → J → Way J
  stolen way job = record { deque = way.deque; taken = way.taken ++ job ∷ [] }

  -- who has lent no way knows that these are left: what was put, less what was taken
  abbrev pub OwnLeaves : Own J → List J → Type 0
  OwnLeaves own left = own.lent ≡ 0 → (h : J → ℕ) → weigh h own.put ≡ weigh h own.taken + weigh h left

  -- what is left in a deque that has lent no way has come to these jobs
  abbrev pub Drains : Own J → List J → List J → Type 0
  Drains own before after = own.lent ≡ 0 → (h : J → ℕ) → weigh h own.taken + weigh h after ≡ weigh h own.put + weigh h before
