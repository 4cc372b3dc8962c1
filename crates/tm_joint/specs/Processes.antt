-- The processes of one tree, each played by itself, and their takes in the order of the tree's
-- lines.
use Rattle.std.specs.Prelude.{◌≡◌, ⊤, ℕ, Bool, true, false, List, [], ◌∷◌, ◌++◌, length, map, if◌then◌else◌, ◌==◌}
use Rattle.std.specs.List.{AllByRecursion}
use Rattle.tm_rules.specs.Types.{Item, Take}
use Rattle.tm_legal.specs.Prelude.{Agrees, Case, History, IsLegalTake, Scene, Situation, after_take, do_pids, forked, newest, with_ids}
use Rattle.tm_rules.specs.Prelude.{pid_of_line}

-- a process's own lines, in order
abbrev pub lines_of : ℕ → List Item → List Item
lines_of pid [] = []
lines_of pid (item ∷ items) =
    if pid_of_line item == pid then item ∷ lines_of pid items else lines_of pid items

-- a process that stands at `now` before these lines of its own: each request has its next take, of
-- which P holds, and each child starts as it leaves it
abbrev pub ProcessPlayed : (Case → Type 0) → ℕ → (ℕ → Situation) → Situation → List Item → List Take
    → Type 0
ProcessPlayed P t start now [] takes = takes ≡ []
ProcessPlayed P t start now (Item.Ids pid ids ∷ lines) takes =
    ProcessPlayed P t start (with_ids now ids) lines takes
ProcessPlayed P t start now (Item.Fork pid child ∷ lines) takes =
    (start child ≡ forked now child) × ProcessPlayed P t start now lines takes
ProcessPlayed P t start now (Item.Do pid request ∷ lines) [] = ⊥
ProcessPlayed P t start now (Item.Do pid request ∷ lines) (k ∷ takes) =
    (k.pid ≡ pid) × P (record { tree = t; now = now; request = request; taken = k })
    × ProcessPlayed P t start (after_take now k) lines takes

-- the takes that each process has left
abbrev pub Queues : Type 0
Queues = ℕ → List Take

-- one process has these takes left
abbrev pub with_queue : Queues → ℕ → List Take → Queues
with_queue queue pid takes other = if other == pid then takes else queue other

-- the first take, and then what follows with the others
abbrev pub next_take : List Take → (List Take → List Take) → List Take
next_take [] follow = follow []
next_take (k ∷ takes) follow = k ∷ follow takes

-- the takes in the order of the `do` lines: for each line the next one of its process
unfoldable pub merged : List Item → Queues → List Take
merged [] queue = []
merged (Item.Ids pid ids ∷ items) queue = merged items queue
merged (Item.Fork pid child ∷ items) queue = merged items queue
merged (Item.Do pid request ∷ items) queue =
    next_take (queue pid) (λ takes. merged items (with_queue queue pid takes))

-- the processes that are there: one more
abbrev pub with_process : (ℕ → Bool) → ℕ → ℕ → Bool
with_process there child pid = if pid == child then true else there pid

-- each line is of a process that is there, and each child is new
abbrev pub LinesAreOfTree : (ℕ → Bool) → List Item → Type 0
LinesAreOfTree there [] = ⊤
LinesAreOfTree there (Item.Ids pid ids ∷ items) = (there pid ≡ true) × LinesAreOfTree there items
LinesAreOfTree there (Item.Fork pid child ∷ items) =
    (there pid ≡ true) × (there child ≡ false) × LinesAreOfTree (with_process there child) items
LinesAreOfTree there (Item.Do pid request ∷ items) = (there pid ≡ true) × LinesAreOfTree there items

-- the `do` lines of a process, each with its take
abbrev pub process_cases : ℕ → Situation → List Item → List Take → List Case
process_cases t now [] takes = []
process_cases t now (Item.Ids pid ids ∷ lines) takes =
    process_cases t (with_ids now ids) lines takes
process_cases t now (Item.Fork pid child ∷ lines) takes = process_cases t now lines takes
process_cases t now (Item.Do pid request ∷ lines) [] = []
process_cases t now (Item.Do pid request ∷ lines) (k ∷ takes) =
    record { tree = t; now = now; request = request; taken = k }
    ∷ process_cases t (after_take now k) lines takes

-- its children, each with the situation that it starts in
abbrev pub children_of : Situation → List Item → List Take → List (ℕ × Situation)
children_of now [] takes = []
children_of now (Item.Ids pid ids ∷ lines) takes = children_of (with_ids now ids) lines takes
children_of now (Item.Fork pid child ∷ lines) takes =
    (child, forked now child) ∷ children_of now lines takes
children_of now (Item.Do pid request ∷ lines) [] = []
children_of now (Item.Do pid request ∷ lines) (k ∷ takes) =
    children_of (after_take now k) lines takes

-- a process before these lines of its own, of whose earlier lines the takes are legal: `at` is
-- where it stands, without its floor
pub record IsProcessWalked (scene : Scene) (history : History) (t : ℕ) (start : Situation) (lines : List Item)
    (at : Situation) (left : List Item) (takes : List Take) (children : List (ℕ × Situation)) : Type 0 where
  pub walked : Situation
  pub done : List Case
  pub cases : (more : List Take)
      → process_cases t start lines (takes ++ more) ≡ done ++ process_cases t walked left more
  pub born : (more : List Take)
      → children_of start lines (takes ++ more) ≡ children ++ children_of walked left more
  pub pids : map (λ (k : Take). k.pid) takes ++ do_pids left ≡ do_pids lines
  pub agree : Agrees (newest scene history).policy (length history) start.process.pid walked at
  pub legal : AllByRecursion (IsLegalTake scene history) done
