-- What the workers share, and what each comes to.
use Rattle.std.specs.Prelude.{◌≡◌, ◌≤◌, ◌++◌, ℕ, true, List, map}
use Rattle.std.specs.List.{AllByRecursion, list_all}
use Rattle.tm_rules.specs.Types.{Book, Made, Start, Tree}
use Rattle.tm_rules.specs.Prelude.{Trace, item_is_request}
use Rattle.tm_replay.specs.Tomoyo.{tomoyo_grammar}
use Rattle.tm_replay.specs.PlayedTree.{PlayedTree}
use Rattle.tm_replay.specs.Rows.{Shift}
use Rattle.tm_steal_rows.specs.declared.played.Played.{Played}
use Rattle.tm_steal_rows.specs.declared.played.PlayedTake.{PlayedTake}
use Rattle.tm_steal_rows.specs.Playing.{Event, IsStealing, events_of, IsTakeOf, IsOfProcess}
use Rattle.tm_steal_rows.specs.Stolen.{Stolen}
use Rattle.tm_steal.specs.declared.board.Board.{Board}
use Rattle.tm_steal.specs.declared.board.Hand.{Hand}

-- each request of the board's trace can be asked, and it has no more trees than the opening
pub record IsBoard (start : Start) (board : Board) : Type 0 where
  pub asked : AllByRecursion (λ (tree : Tree). list_all (item_is_request tomoyo_grammar.is_path) tree.records ≡ true) board.trace.now
  pub trees : board.trees ≤ start.trees

-- a worker goes on, whatever it has stolen
pub record GoesOn (start : Start) (trace : Trace) (old : List Made) (before : List ℕ) (all : List Played)
    (new : List Made) (own : List ℕ) (more : List Played) : Type 0 where
  pub steals : (shift : Shift) → IsStealing start trace shift old before (events_of all)
      → IsStealing start trace shift new own (events_of more)
  pub whose : AllByRecursion IsOfProcess all → AllByRecursion IsOfProcess more

-- it goes on with the process of this pid, whatever it has played before it
pub record GoesOnWith (start : Start) (trace : Trace) (pid : ℕ) (old : List Made) (before : List ℕ)
    (takes : List PlayedTake) (new : List Made) (own : List ℕ) (more : List PlayedTake) : Type 0 where
  pub steals : (shift : Shift) (all : List Event)
      → IsStealing start trace shift old before (all ++ map Event.Take takes)
      → IsStealing start trace shift new own (all ++ map Event.Take more)
  pub whose : AllByRecursion (IsTakeOf pid) takes → AllByRecursion (IsTakeOf pid) more

-- workers have played a trace together, and these rows were gathered of it
abbrev pub AreStolen : Start → Trace → Book → List Made → List PlayedTree → Type 0
AreStolen start trace book list rows = (hands : List Hand) × Stolen start trace book hands list rows
