-- Trees and workers that have played from a seat, in every scene with its opening.
use Rattle.std.specs.Prelude.{◌≡◌, ⊤, ◌≤◌, ◌<◌, ℕ, List, ◌∷◌, [], ◌++◌, length, map, flat_map, Bool, true, false, Option, Some, None, is_some, option_to_list}
use Rattle.std.specs.List.{list_all, AllByRecursion}
use Rattle.tm_rules.specs.Types.{Book, Made, Maker, Reply, Start, Step, Tree}
use Rattle.tm_rules.specs.Prelude.{DomainName, Trace, item_is_request, live_domain}
use Rattle.tm_take.specs.Tomoyo.{tomoyo_grammar}
use Rattle.tm_legal.specs.Prelude.{do_pids}
use Rattle.tm_joint.specs.Played.{Row, row_own, seen_by, RowHolds}
use Rattle.tm_seat.specs.declared.tree.PlayedTree.{PlayedTree}
use Rattle.tm_seat.specs.declared.tree.TreeToPlay.{TreeToPlay}
use Rattle.tm_seat.specs.Seats.{scene_of, FitsFrom, Begins, IsMade, MadeBy}
use Rattle.tm_seat.specs.Playing.{LooksSince, Rises}

-- a tree that can be played: its number is one of the opening's trees, it starts in a live domain
-- of the opening, and its requests can be asked
pub record IsReady (start : Start) (tree : TreeToPlay) : Type 0 where
  pub above : 0 < tree.number
  pub inside : tree.number ≤ start.trees
  pub home : (name : DomainName) × (live_domain start.policy name ≡ Some tree.home)
  pub asked : list_all (item_is_request tomoyo_grammar.is_path) tree.records ≡ true

-- the tree's End is made last where a supervisor stands, else nothing is made
abbrev pub EndsTree : Start → ℕ → Bool → List Made → List ℕ → List Made → List ℕ → Option ℕ → Type 0
EndsTree start number supervised old before new own None =
    (supervised ≡ false) × (new ≡ old) × (own ≡ before)
EndsTree start number supervised old before new own (Some end) =
    (supervised ≡ true)
    × (reply : Reply)
    × IsMade start old (record { maker = Maker.Tree number; step = Step.End number }) new reply
    × (end ≡ length new) × (own ≡ before ++ end ∷ [])

-- its takes and its End
abbrev pub row_of : PlayedTree → Row
row_of played = record { takes = played.takes; end = played.end }

-- the row holds in every scene with that opening in which a supervisor stands or doesn't, as
-- whichever tree has that number and these records
abbrev pub RowIsPlayed : Start → TreeToPlay → Bool → List Made → Row → Type 0
RowIsPlayed start tree supervised list row =
    (trace : Trace) (book : Option Book) (its : Tree) → length trace ≡ start.trees
    → is_some book ≡ supervised → its.records ≡ tree.records
    → live_domain start.policy its.start ≡ Some tree.home
    → RowHolds (scene_of start trace book) list tree.number its row

-- who makes the steps of a tree: its processes, and it itself
abbrev pub tree_makers : TreeToPlay → List Maker
tree_makers tree = Maker.Tree tree.number ∷ map (λ pid. Maker.Process pid) (do_pids tree.records)

-- no look of a row is older than that version
abbrev pub RowSince : ℕ → PlayedTree → Type 0
RowSince version played = AllByRecursion (LooksSince version) played.takes

-- the versions that a row has seen: those of its takes, and its End
abbrev pub row_seen : PlayedTree → List ℕ
row_seen played = seen_by played.takes ++ option_to_list played.end

-- no look of a row is older than the floor, or than what the rows before it have seen
abbrev pub RowsRise : ℕ → List PlayedTree → Type 0
RowsRise floor rows = Rises RowSince row_seen floor rows

-- Workers

-- each tree was played, in order
abbrev pub EachIsPlayed : Start → Bool → List Made → List TreeToPlay → List PlayedTree → Type 0
EachIsPlayed start supervised list [] [] = ⊤
EachIsPlayed start supervised list [] (played ∷ rest) = ⊥
EachIsPlayed start supervised list (tree ∷ trees) [] = ⊥
EachIsPlayed start supervised list (tree ∷ trees) (played ∷ rest) =
    (played.number ≡ tree.number) × RowIsPlayed start tree supervised list (row_of played)
    × EachIsPlayed start supervised list trees rest

-- the numbers of all steps that these trees have made
abbrev pub rows_own : List PlayedTree → List ℕ
rows_own rows = flat_map (λ (played : PlayedTree). row_own (row_of played)) rows

-- who makes the steps of these trees
abbrev pub makers_all : List TreeToPlay → List Maker
makers_all trees = flat_map tree_makers trees

-- what was known and made when a worker, or an editor, began
pub record Shift : Type 0 where
  pub known : List Made
  pub before : List ℕ

-- a worker that has played these trees, by what its seat knows and has made
pub record IsWorking (start : Start) (supervised : Bool) (shift : Shift) (list : List Made) (own : List ℕ)
    (done : List TreeToPlay) (rows : List PlayedTree) : Type 0 where
  pub fitted : FitsFrom start list
  pub begins : Begins shift.known list
  pub each : EachIsPlayed start supervised list done rows
  pub made : own ≡ shift.before ++ rows_own rows
  pub makers : MadeBy (makers_all done) shift.known shift.before list own
  pub seen : AllByRecursion (λ version. version ≤ length list) (flat_map row_seen rows)
  pub rises : RowsRise (length shift.known) rows

-- one tree more
abbrev pub WorksOn : Start → Bool → List Made → List ℕ → List PlayedTree → TreeToPlay → List Made → List ℕ
    → List PlayedTree → Type 0
WorksOn start supervised old before rows tree new own more =
    (shift : Shift) (done : List TreeToPlay) → IsWorking start supervised shift old before done rows
    → IsWorking start supervised shift new own (done ++ tree ∷ []) more
