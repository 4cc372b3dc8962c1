-- Which worker plays which tree, and what is gathered of what they played.
use Rattle.std.specs.Prelude.{◌≡◌, ℕ, ◌-◌, ◌%◌, ◌==◌, List, [], ◌∷◌, ◌++◌, filter, map, flat_map, Some, slice_get, slice_set}
use Rattle.tm_legal.specs.Prelude.{numbers_to, times}
use Rattle.tm_seat.specs.declared.tree.TreeToPlay.{TreeToPlay}
use Rattle.tm_seat.specs.declared.tree.PlayedTree.{PlayedTree}
use Rattle.tm_seat.specs.Rows.{rows_own}

-- the worker, from 0, that plays the tree of a number
abbrev pub dealt_to : ℕ → ℕ → ℕ
dealt_to workers number = (number - 1) % workers

-- the trees that a worker plays, in order
abbrev pub hand_of : ℕ → ℕ → List TreeToPlay → List TreeToPlay
hand_of workers worker trees =
    filter (λ (tree : TreeToPlay). dealt_to workers tree.number == worker) trees

-- a tree more at the end of one hand
abbrev pub Gives : List (List TreeToPlay) → ℕ → TreeToPlay → List (List TreeToPlay) → Type 0
Gives old place tree new =
    (hand : List TreeToPlay) × (slice_get old place ≡ Some hand)
    × (new ≡ slice_set old place (hand ++ tree ∷ []))

-- the first row of a queue is taken out
abbrev pub TakesFirst : List (List PlayedTree) → ℕ → PlayedTree → List (List PlayedTree) → Type 0
TakesFirst old place row new =
    (rest : List PlayedTree) × (slice_get old place ≡ Some (row ∷ rest))
    × (new ≡ slice_set old place rest)

-- the numbers of all steps that stand in these queues
abbrev pub queues_own : List (List PlayedTree) → List ℕ
queues_own queues = flat_map rows_own queues

-- a row stands in one of the queues
pub record IsAmong (queues : List (List PlayedTree)) (row : PlayedTree) : Type 0 where
  pub worker : ℕ
  pub queue : List PlayedTree
  pub there : slice_get queues worker ≡ Some queue
  pub place : ℕ
  pub at : slice_get queue place ≡ Some row

-- so many rows, by their numbers from 1, each from one of the queues, and no step of these is left
-- out or counted twice
pub record IsGathered (count : ℕ) (queues : List (List PlayedTree)) (rows : List PlayedTree) : Type 0 where
  pub numbers : map (λ (row : PlayedTree). row.number) rows ≡ numbers_to count
  pub among : (k : ℕ) (row : PlayedTree) → slice_get rows k ≡ Some row → IsAmong queues row
  pub counted : (number : ℕ) → times number (queues_own queues) ≡ times number (rows_own rows)
