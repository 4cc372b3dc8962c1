-- What each thread of a replay has to do, and what it has done.
use Rattle.std.specs.Prelude.{◌≡◌, ◌≤◌, ◌<◌, ⊤, ℕ, suc, Bool, true, false, List, [], ◌∷◌, ◌++◌, length, map, take, sum_by, Option, Some, None, unwrap_or}
use Rattle.std.specs.List.{AllByRecursion}
use Rattle.tm_word.specs.Prelude.{Text}
use Rattle.tm_rules.specs.Types.{Book, Editor, FileKind, Made, Maker, Policy, Start, Step, Tree}
use Rattle.tm_rules.specs.Prelude.{Trace, live_domain, numbered}
use Rattle.tm_take.specs.Each.{EachWith}
use Rattle.tm_take.specs.Tomoyo.{tomoyo_grammar}
use Rattle.tm_legal.specs.Prelude.{IsNamed, IsOpened}
use Rattle.tm_joint.specs.Makers.{Claims}
use Rattle.tm_joint.specs.Played.{LinesMade, DeskDid}
use Rattle.tm_seat.specs.declared.tree.PlayedTree.{PlayedTree}
use Rattle.tm_seat.specs.declared.tree.TreeToPlay.{TreeToPlay}
use Rattle.tm_seat.specs.Seats.{scene_of, Begins, FitsFrom}
use Rattle.tm_seat.specs.Rows.{EachIsPlayed, RowsRise, rows_own, makers_all}
use Rattle.tm_seat.specs.declared.part.Part.{Part}

-- Plans

-- the tree of a number as it is to be played, from the live domain that its name has
abbrev pub tree_to_play : Policy → ℕ → Tree → TreeToPlay
tree_to_play policy number tree =
    record { number = number; home = unwrap_or (live_domain policy tree.start) 0; records = tree.records }

-- the trees of a trace, where the first one has number t
abbrev pub trees_from : Policy → ℕ → Trace → List TreeToPlay
trees_from policy t [] = []
trees_from policy t (tree ∷ trees) = tree_to_play policy t tree ∷ trees_from policy (suc t) trees

-- the editors' parts, where the first editor has number e
abbrev pub editor_parts : {H : Type 0} → ℕ → List Editor → List (Part H)
editor_parts e [] = []
editor_parts e (editor ∷ editors) = Part.Editor e editor.lines ∷ editor_parts (suc e) editors

-- the supervisor's part, where one stands
abbrev pub desk_parts : {H : Type 0} → Bool → List (Part H)
desk_parts false = []
desk_parts true = Part.Desk ∷ []

-- the workers with their hands, and the editors
abbrev pub working_parts : {H : Type 0} → List H → List Editor → List (Part H)
working_parts hands editors = map Part.Worker hands ++ editor_parts 1 editors

-- the parts of all threads: the workers, the editors, and the supervisor
abbrev pub all_parts : {H : Type 0} → List H → List Editor → Bool → List (Part H)
all_parts hands editors supervised = map Part.Worker hands ++ (editor_parts 1 editors ++ desk_parts supervised)

-- Beginnings

-- the step by which the supervisor comes
abbrev pub coming : Made
coming = record { maker = Maker.Desk; step = Step.Attach }

-- the supervisor has come, with its only step so far
pub record HasCome (known : List Made) (own : List ℕ) : Type 0 where
  pub attach : ℕ
  pub own_is : own ≡ attach ∷ []
  pub above : 0 < attach
  pub there : numbered known attach ≡ Some coming

-- a part that isn't the supervisor's
abbrev pub IsWorking : {H : Type 0} → Part H → Type 0
IsWorking (Part.Worker hand) = ⊤
IsWorking (Part.Editor number lines) = ⊤
IsWorking Part.Desk = ⊥

-- what a part that isn't the supervisor's needs of the opening
abbrev pub PartWaits : {H : Type 0} → (Start → H → Type 0) → Start → Part H → Type 0
PartWaits Ready start (Part.Worker hand) = Ready start hand
PartWaits Ready start (Part.Editor number lines) = (0 < number) × (number ≤ length start.editors)
PartWaits Ready start Part.Desk = ⊥

-- what a part needs of what its pass knows and has made
abbrev pub PassIsReady : {H : Type 0} → Part H → List Made → List ℕ → Type 0
PassIsReady (Part.Worker hand) known own = own ≡ []
PassIsReady (Part.Editor number lines) known own = own ≡ []
PassIsReady Part.Desk known own = HasCome known own

-- what a part needs of the opening, and of what its pass knows and has made
abbrev pub PartIsReady : {H : Type 0} → (Start → H → Type 0) → Start → Part H → List Made → List ℕ → Type 0
PartIsReady Ready start (Part.Worker hand) known own = Ready start hand × (own ≡ [])
PartIsReady Ready start (Part.Editor number lines) known own =
    (0 < number) × (number ≤ length start.editors) × (own ≡ [])
PartIsReady Ready start Part.Desk known own = HasCome known own

-- what every part needs of the opening
pub record CanBegin (start : Start) : Type 0 where
  pub opened : IsOpened start.policy
  pub named : IsNamed tomoyo_grammar.is_path start.policy

-- Ends

-- what a thread knows at its end, the numbers of its steps, and what it gives back
pub record Deed (D : Type 0) : Type 0 where
  pub known : List Made
  pub own : List ℕ
  pub rows : List D

abbrev pub deed : {D : Type 0} → List Made → List ℕ → List D → Deed D
deed known own rows = record { known = known; own = own; rows = rows }

-- whoever all these makers belong to claims these steps
abbrev pub ClaimedBy : List Maker → List Made → List ℕ → Type 0
ClaimedBy makers list own =
    (who : Maker → Option ℕ) (i : ℕ) → AllByRecursion (λ maker. who maker ≡ Some i) makers
    → Claims who i list own

-- a worker has played its trees, and none of its looks is older than that version, or than what the
-- trees before have seen
pub record WorkerDid (start : Start) (floor : ℕ) (trees : List TreeToPlay) (done : Deed PlayedTree) : Type 0 where
  pub each : EachIsPlayed start start.desk done.known trees done.rows
  pub own_is : done.own ≡ rows_own done.rows
  pub claims : ClaimedBy (makers_all trees) done.known done.own
  pub rises : RowsRise floor done.rows

-- an editor has made all its lines
pub record EditorDid (number : ℕ) (lines : List (FileKind × Text)) (known : List Made) (own : List ℕ) : Type 0 where
  pub made : LinesMade known number lines own
  pub claims : ClaimedBy (Maker.Editor number ∷ []) known own

-- the supervisor has come, answered and left, by every list that goes on from what it knows
pub record SupervisorDid (start : Start) (book : Book) (known : List Made) (own : List ℕ) : Type 0 where
  pub acts : (trace : Trace) (list : List Made) → length trace ≡ start.trees
      → Begins known list → DeskDid (scene_of start trace (Some book)) list book own
  pub claims : ClaimedBy (Maker.Desk ∷ []) known own

-- what a part has come to, where this is what a worker has that knew at least so many steps when it
-- began
abbrev pub PartIsDone : {H D : Type 0} → (Start → ℕ → H → Deed D → Type 0) → Start → Book → ℕ → Part H → Deed D → Type 0
PartIsDone Did start book floor (Part.Worker hand) done = Did start floor hand done
PartIsDone Did start book floor (Part.Editor number lines) done = EditorDid number lines done.known done.own
PartIsDone Did start book floor Part.Desk done = SupervisorDid start book done.known done.own

-- every part has come to its deed, and all of them to this list of steps, which fits; each began
-- when it knew the supervisor's coming, where one stands; and these are what the workers gave
pub record PlayedTogether {H D : Type 0} (Did : Start → ℕ → H → Deed D → Type 0) (start : Start)
    (book : Book) (hands : List H) (list : List Made) (given : List (List D)) : Type 0 where
  pub fitted : FitsFrom start list
  pub attached : List Made
  pub come : start.desk ≡ true → (number : ℕ) × (numbered attached number ≡ Some coming)
  pub begins : Begins attached list
  pub deeds : List (Deed D)
  pub each : EachWith (PartIsDone Did start book (length attached)) (all_parts hands start.editors start.desk) deeds
  pub seen : AllByRecursion (λ (done : Deed D). Begins done.known list) deeds
  pub closed : length list ≡ sum_by (λ (done : Deed D). length done.own) deeds
  pub given_is : given ≡ take (length hands) (map (λ (done : Deed D). done.rows) deeds)
