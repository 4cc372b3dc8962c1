-- What each activity did, by one list of steps: a tree its takes and its end, an editor its lines,
-- the supervisor its steps.
use Rattle.std.specs.Prelude.{◌≡◌, ⊤, ℕ, suc, ◌<◌, ◌≤◌, ◌⊎◌, true, List, [], ◌∷◌, ◌++◌, length, map, flat_map, Option, Some, None, is_some, option_to_list}
use Rattle.std.specs.Option.{IfSome}
use Rattle.std.specs.List.{AllByRecursion}
use Rattle.tm_word.specs.Prelude.{Text}
use Rattle.tm_rules.specs.Types.{Book, Editor, FileKind, Made, Query, Step, Take, Tree}
use Rattle.tm_rules.specs.Prelude.{Trace, book_answer, code_of, first_query}
use Rattle.tm_legal.specs.Prelude.{RisesFrom, Scene, TreePlayed, all_ended, last_from, own_numbers, seen, state_at}
use Rattle.tm_made.specs.Made.{history_made, made_step}

-- Trees

-- a tree's takes, and its end where a supervisor stands
pub record Row : Type 0 where
  pub takes : List Take
  pub end : Option ℕ

-- the versions that these takes have seen
abbrev pub seen_by : List Take → List ℕ
seen_by takes = flat_map (λ (k : Take). flat_map seen k.looks) takes

-- the numbers of the steps that a tree has made
abbrev pub row_own : Row → List ℕ
row_own row = own_numbers row.takes ++ option_to_list row.end

-- the takes are legal, and the end is a step of this tree above all that they have seen
pub record RowHolds (scene : Scene) (list : List Made) (t : ℕ) (tree : Tree) (row : Row) : Type 0 where
  pub played : TreePlayed scene (history_made scene list) t tree row.takes
  pub ended : is_some row.end ≡ is_some scene.book
  pub end_is : IfSome row.end (λ n. made_step list n ≡ Some (Step.End t))
  pub above : IfSome row.end (λ n. AllByRecursion (λ version. version < n) (seen_by row.takes))

-- of each tree of a trace and its row, where the first tree has number t
abbrev pub EachRow : (ℕ → Tree → Row → Type 0) → ℕ → Trace → List Row → Type 0
EachRow P t [] [] = ⊤
EachRow P t [] (row ∷ rows) = ⊥
EachRow P t (tree ∷ trees) [] = ⊥
EachRow P t (tree ∷ trees) (row ∷ rows) = P t tree row × EachRow P (suc t) trees rows

-- Editors

-- these steps are these lines of editor e, in order
abbrev pub LinesMade : List Made → ℕ → List (FileKind × Text) → List ℕ → Type 0
LinesMade list e lines numbers =
    RisesFrom 0 numbers
    × (map (made_step list) numbers ≡ map (λ line. Some (Step.Edit e line.0 line.1)) lines)

-- editor e made these steps: all its lines
abbrev pub EditorDid : List Made → ℕ → Editor → List ℕ → Type 0
EditorDid list e editor numbers = LinesMade list e editor.lines numbers

-- of each editor and its numbers, where the first editor has number e
abbrev pub EachEditor : (ℕ → Editor → List ℕ → Type 0) → ℕ → List Editor → List (List ℕ) → Type 0
EachEditor P e [] [] = ⊤
EachEditor P e [] (numbers ∷ rest) = ⊥
EachEditor P e (editor ∷ editors) [] = ⊥
EachEditor P e (editor ∷ editors) (numbers ∷ rest) =
    P e editor numbers × EachEditor P (suc e) editors rest

-- The supervisor

-- step p answers the first query of a version since step `last`, as the book says
pub record AnswersFirst (scene : Scene) (list : List Made) (book : Book) (last p : ℕ) : Type 0 where
  pub version : ℕ
  pub query : Query
  pub since : last ≤ version
  pub before : version < p
  pub first : first_query (state_at scene (history_made scene list) version).queries ≡ Some query
  pub answer : made_step list p ≡ Some (Step.Answer query.serial (code_of (book_answer book query)))

-- each answers so since the one before it
abbrev pub AnswersFrom : Scene → List Made → Book → ℕ → List ℕ → Type 0
AnswersFrom scene list book last [] = ⊤
AnswersFrom scene list book last (p ∷ answers) =
    AnswersFirst scene list book last p × AnswersFrom scene list book p answers

-- in a version since its last answer all trees had ended and no query was unanswered
pub record AllWasDone (scene : Scene) (list : List Made) (last detach : ℕ) : Type 0 where
  pub version : ℕ
  pub since : last ≤ version
  pub before : version < detach
  pub none : first_query (state_at scene (history_made scene list) version).queries ≡ None
  pub ended : all_ended scene.grammar (state_at scene (history_made scene list) version) ≡ true

-- the supervisor came, answered and left, and these are the numbers of its steps
pub record DeskDid (scene : Scene) (list : List Made) (book : Book) (numbers : List ℕ) : Type 0 where
  pub attach : ℕ
  pub answers : List ℕ
  pub detach : ℕ
  pub numbers_are : numbers ≡ attach ∷ answers ++ detach ∷ []
  pub rising : RisesFrom 0 numbers
  pub attach_is : made_step list attach ≡ Some Step.Attach
  pub detach_is : made_step list detach ≡ Some Step.Detach
  pub each : AnswersFrom scene list book attach answers
  pub due : (book.stop ≡ Some (length answers))
      ⊎ AllWasDone scene list (last_from attach answers) detach
  pub few : IfSome book.stop (λ n. length answers ≤ n)

-- nobody did, where there is no book
abbrev pub DeskActs : Scene → List Made → Option Book → List ℕ → Type 0
DeskActs scene list None numbers = numbers ≡ []
DeskActs scene list (Some book) numbers = DeskDid scene list book numbers
