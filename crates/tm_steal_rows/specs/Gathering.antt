-- How what the workers give back is gathered: whose each process was, the takes by their processes,
-- and a row for each tree.
use Rattle.std.specs.Prelude.{◌≡◌, ⊤, ℕ, suc, ◌≤◌, ◌<◌, Bool, true, List, [], ◌∷◌, ◌++◌, map, flat_map, Option, Some, is_some, length, option_to_list, slice_get}
use Rattle.std.specs.Option.{IfSome}
use Rattle.std.specs.List.{AllByRecursion}
use Rattle.tm_rules.specs.Types.{Item, Policy, Take, Tree}
use Rattle.tm_rules.specs.Prelude.{Trace, live_domain}
use Rattle.tm_legal.specs.Prelude.{Case, Situation, Situations, do_pids, own_numbers, times, tree_cases}
use Rattle.tm_joint.specs.Played.{seen_by}
use Rattle.tm_seat.specs.declared.tree.PlayedTree.{PlayedTree}
use Rattle.tm_take.specs.Situations.{first_situation}
use Rattle.tm_steal_rows.specs.declared.played.Played.{Played}
use Rattle.tm_steal_rows.specs.declared.played.PlayedTake.{PlayedTake}
use Rattle.tm_steal_rows.specs.declared.parts.TreePart.{TreePart}
use Rattle.tm_steal_rows.specs.declared.records.RecordPlace.{RecordPlace}
use Rattle.tm_steal_rows.specs.Playing.{Event, events_of}
use Rattle.tm_steal_rows.specs.Records.{places_in}

-- Whose they were

-- a process is one that this worker owns; the first worker ends the trees
abbrev pub IsOwned : (ℕ → Option ℕ) → ℕ → Played → Type 0
IsOwned owner worker (Played.Process process) = owner process.pid ≡ Some worker
IsOwned owner worker (Played.End tree number) = worker ≡ 0

-- all that each worker gives back, where the first of these has that number
abbrev pub EachOwned : (ℕ → Option ℕ) → ℕ → List (List Played) → Type 0
EachOwned owner worker [] = ⊤
EachOwned owner worker (all ∷ given) =
    AllByRecursion (IsOwned owner worker) all × EachOwned owner (suc worker) given

-- whoever owns a process owns it still
abbrev pub AreKept : (ℕ → Option ℕ) → (ℕ → Option ℕ) → Type 0
AreKept old new = (pid worker : ℕ) → old pid ≡ Some worker → new pid ≡ Some worker

-- The takes by their processes

-- the take, if it is one
abbrev pub take_of : Event → List PlayedTake
take_of (Event.Take played) = played ∷ []
take_of (Event.End tree number) = []

-- the End with its tree's number, if it is one
abbrev pub end_of : Event → List (ℕ × ℕ)
end_of (Event.Take played) = []
end_of (Event.End tree number) = (tree, number) ∷ []

-- the events of all that the workers give back, one after another
abbrev pub all_given : List (List Played) → List Event
all_given given = flat_map events_of given

-- the takes among them
abbrev pub takes_of : List Event → List PlayedTake
takes_of all = flat_map take_of all

-- the Ends among them, each with its tree's number
abbrev pub ends_of : List Event → List (ℕ × ℕ)
ends_of all = flat_map end_of all

-- the numbers of the steps of these takes
abbrev pub takes_own : List PlayedTake → List ℕ
takes_own takes = flat_map (λ (played : PlayedTake). own_numbers (played.take ∷ [])) takes

-- a take is one of these
abbrev pub IsAmong : PlayedTake → List PlayedTake → Type 0
IsAmong played takes = (place : ℕ) × (slice_get takes place ≡ Some played)

-- each of these takes is one of those
abbrev pub AreAmong : List PlayedTake → List PlayedTake → Type 0
AreAmong some all = (k : ℕ) (played : PlayedTake) → slice_get some k ≡ Some played → IsAmong played all

-- these takes in another order: as many, each one of those, and no step is left out or counted twice
pub record AreTheSame (takes other : List PlayedTake) : Type 0 where
  pub among : AreAmong other takes
  pub counted : (number : ℕ) → times number (takes_own takes) ≡ times number (takes_own other)
  pub long : length takes ≡ length other

-- these takes were taken out of those, and others are left
abbrev pub AreTakenOut : List PlayedTake → List PlayedTake → List PlayedTake → Type 0
AreTakenOut old own left = AreTheSame old (own ++ left)

-- these takes more have been laid to those that were there
abbrev pub AreLaid : List PlayedTake → List PlayedTake → List PlayedTake → Type 0
AreLaid old takes new = AreTheSame (old ++ takes) new

-- Rows

-- a take began where its process stands, and knew all that the process has seen
pub record StandsThere (now : Situation) (played : PlayedTake) : Type 0 where
  pub process : now.process ≡ played.stood.process
  pub domain : now.domain ≡ played.stood.domain
  pub floor : now.floor ≤ played.since

-- each `do` line's take is this one, which began where the line finds its process
abbrev pub EachStands : List Case → List PlayedTake → Type 0
EachStands [] [] = ⊤
EachStands [] (played ∷ takes) = ⊥
EachStands (c ∷ cases) [] = ⊥
EachStands (c ∷ cases) (played ∷ takes) =
    (c.taken ≡ played.take) × StandsThere c.now played × EachStands cases takes

-- the takes alone
abbrev pub taken : List PlayedTake → List Take
taken takes = map (λ (played : PlayedTake). played.take) takes

-- the places of these takes' records
abbrev pub placed : List PlayedTake → List RecordPlace
placed takes = map (λ (played : PlayedTake). played.place) takes

-- the takes of tree t are these: one for each `do` line, in their order, which began where the line
-- finds its process
pub record AreTakesOf (t : ℕ) (home : Option ℕ) (records : List Item) (own : List PlayedTake)
    (takes : List Take) : Type 0 where
  pub are : takes ≡ taken own
  pub pids : map (λ (k : Take). k.pid) takes ≡ do_pids records
  pub stand : EachStands (tree_cases t (first_situation home) records takes) own
  pub places : placed own ≡ places_in t 1 records

-- the first of these takes are the tree's, and the others are left
pub record TakesOfTree (t : ℕ) (home : Option ℕ) (records : List Item) (old : List PlayedTake)
    (takes : List Take) (left : List PlayedTake) : Type 0 where
  pub own : List PlayedTake
  pub all : old ≡ own ++ left
  pub are : AreTakesOf t home records own takes

-- the takes of a tree were taken out of what was left of its processes
pub record TakesOfProcesses (t : ℕ) (home : Option ℕ) (records : List Item) (old : List PlayedTake)
    (takes : List Take) (left : List PlayedTake) : Type 0 where
  pub own : List PlayedTake
  pub are : AreTakesOf t home records own takes
  pub taken_out : AreTakenOut old own left

-- tree t is walked up to these records, the first of which has number n, where its processes stand
-- so, with these takes of its own
pub record IsWalking (t : ℕ) (home : Option ℕ) (records : List Item) (old : List PlayedTake) (n : ℕ)
    (at : Situations) (items : List Item) (takes : List Take) (left : List PlayedTake) : Type 0 where
  pub own : List PlayedTake
  pub are : takes ≡ taken own
  pub pids : map (λ (k : Take). k.pid) takes ++ do_pids items ≡ do_pids records
  pub stand : (more : List PlayedTake) → EachStands (tree_cases t at items (taken more)) more
      → EachStands (tree_cases t (first_situation home) records (taken (own ++ more))) (own ++ more)
  pub places : placed own ++ places_in t n items ≡ places_in t 1 records
  pub taken_out : AreTakenOut old own left

-- one record more, whose number is n
abbrev pub WalksOn : ℕ → ℕ → Situations → Item → List Take → List PlayedTake → Situations → List Take
    → List PlayedTake → Type 0
WalksOn t n at item takes left later more rest =
    (home : Option ℕ) (records : List Item) (old : List PlayedTake) (items : List Item)
    → IsWalking t home records old n at (item ∷ items) takes left
    → IsWalking t home records old (suc n) later items more rest

-- the first of these Ends is the tree's, where a supervisor stands, and the others are left
abbrev pub EndsNext : Bool → ℕ → List (ℕ × ℕ) → Option ℕ → List (ℕ × ℕ) → Type 0
EndsNext supervised t old end left =
    (is_some end ≡ supervised) × (old ≡ map (λ number. (t, number)) (option_to_list end) ++ left)

-- an End is above all that these takes have seen
abbrev pub StandsAbove : Option ℕ → List Take → Type 0
StandsAbove end takes =
    IfSome end (λ number. AllByRecursion (λ version. version < number) (seen_by takes))

-- the next tree's row is of the first of these takes and Ends, and the others are left
pub record TakesRow (supervised : Bool) (t : ℕ) (tree : Tree) (home : Option ℕ) (takes : List PlayedTake)
    (ends : List (ℕ × ℕ)) (row : PlayedTree) (takes_left : List PlayedTake) (ends_left : List (ℕ × ℕ)) : Type 0 where
  pub number : row.number ≡ t
  pub of_tree : TakesOfTree t home tree.records takes row.takes takes_left
  pub end : EndsNext supervised t ends row.end ends_left
  pub above : StandsAbove row.end row.takes

-- a row for each tree, where the first one has number t, of all these takes and Ends in their order
abbrev pub RowsAreOf : Bool → ℕ → Trace → List (Option ℕ) → List PlayedTake → List (ℕ × ℕ) → List PlayedTree
    → Type 0
RowsAreOf supervised t [] homes takes ends [] = (takes ≡ []) × (ends ≡ [])
RowsAreOf supervised t [] homes takes ends (row ∷ rows) = ⊥
RowsAreOf supervised t (tree ∷ trees) homes takes ends [] = ⊥
RowsAreOf supervised t (tree ∷ trees) [] takes ends (row ∷ rows) = ⊥
RowsAreOf supervised t (tree ∷ trees) (home ∷ homes) takes ends (row ∷ rows) =
    (takes_left : List PlayedTake) × (ends_left : List (ℕ × ℕ))
    × TakesRow supervised t tree home takes ends row takes_left ends_left
    × RowsAreOf supervised (suc t) trees homes takes_left ends_left rows

-- Parts of trees, which are walked beside each other

-- the takes that are left of a part's processes
abbrev pub left_in : TreePart → List PlayedTake
left_in part = flat_map (λ queue. queue.items) part.queues.items

-- the part of tree t has the first of these takes, and the others are left
pub record IsPartOf (t : ℕ) (tree : Tree) (home : Option ℕ) (takes : List PlayedTake) (part : TreePart)
    (takes_left : List PlayedTake) : Type 0 where
  pub number_is : part.number ≡ t
  pub tree_is : part.tree.now ≡ tree
  pub home_is : part.home ≡ home
  pub takes_are : takes ≡ left_in part ++ takes_left

-- a part for each tree, where the first one has number t, of all these takes in their order
abbrev pub PartsAreOf : ℕ → Trace → List (Option ℕ) → List PlayedTake → List TreePart → Type 0
PartsAreOf t [] homes takes [] = takes ≡ []
PartsAreOf t [] homes takes (part ∷ parts) = ⊥
PartsAreOf t (tree ∷ trees) homes takes [] = ⊥
PartsAreOf t (tree ∷ trees) [] takes (part ∷ parts) = ⊥
PartsAreOf t (tree ∷ trees) (home ∷ homes) takes (part ∷ parts) =
    (takes_left : List PlayedTake)
    × IsPartOf t tree home takes part takes_left × PartsAreOf (suc t) trees homes takes_left parts

-- a part after its tree's walk: its takes, if there are some, were taken out of those that were left
pub record IsWalked (old new : TreePart) : Type 0 where
  pub number_is : new.number ≡ old.number
  pub takes_are : IfSome new.takes
      (λ takes. TakesOfProcesses old.number old.home old.tree.now.records (left_in old) takes.items
      (left_in new))

-- each part after its tree's walk
abbrev pub AreWalked : List TreePart → List TreePart → Type 0
AreWalked [] [] = ⊤
AreWalked [] (new ∷ news) = ⊥
AreWalked (old ∷ olds) [] = ⊥
AreWalked (old ∷ olds) (new ∷ news) = IsWalked old new × AreWalked olds news

-- the row of a part that was walked to its end, with the next of these Ends; the others are left
pub record IsRowOf (supervised : Bool) (part : TreePart) (ends : List (ℕ × ℕ)) (row : PlayedTree)
    (ends_left : List (ℕ × ℕ)) : Type 0 where
  pub number : row.number ≡ part.number
  pub all_walked : left_in part ≡ []
  pub has_takes : is_some part.takes ≡ true
  pub takes_are : IfSome part.takes (λ takes. row.takes ≡ takes.items)
  pub end : EndsNext supervised part.number ends row.end ends_left
  pub above : StandsAbove row.end row.takes

-- a row for each part, with the first of these Ends; the others are left
abbrev pub RowsAreOfParts : Bool → List TreePart → List (ℕ × ℕ) → List PlayedTree → List (ℕ × ℕ)
    → Type 0
RowsAreOfParts supervised [] ends [] ends_left = ends ≡ ends_left
RowsAreOfParts supervised [] ends (row ∷ rows) ends_left = ⊥
RowsAreOfParts supervised (part ∷ parts) ends [] ends_left = ⊥
RowsAreOfParts supervised (part ∷ parts) ends (row ∷ rows) ends_left =
    (ends_next : List (ℕ × ℕ))
    × IsRowOf supervised part ends row ends_next
    × RowsAreOfParts supervised parts ends_next rows ends_left

-- the domains that the trees start in: those of their names
abbrev pub homes_of : Policy → Trace → List (Option ℕ)
homes_of policy trace = map (λ (tree : Tree). live_domain policy tree.start) trace

-- a row for each tree of the trace, of all that the workers give back and of nothing else; each
-- process was one worker's
pub record IsGathered (trace : Trace) (homes : List (Option ℕ)) (supervised : Bool)
    (given : List (List Played)) (rows : List PlayedTree) : Type 0 where
  pub owner : ℕ → Option ℕ
  pub owned : EachOwned owner 0 given
  pub takes : List PlayedTake
  pub same : AreTheSame (takes_of (all_given given)) takes
  pub rows_are : RowsAreOf supervised 1 trace homes takes (ends_of (all_given given)) rows
