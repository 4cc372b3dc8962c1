-- With which step the supervisor's steps and the trees' ends can't go on any more: what may be done
-- after the steps before, and the tests that compute it.
use Rattle.std.specs.Prelude.{◌≡◌, ◌↔◌, ◌⊎◌, ◌<◌, ⊤, ℕ, suc, ◌==◌, ◌&&◌, ◌||◌, not, nat_lt, Bool, true, false, [], ◌∷◌, length, take, Option, Some, None, IsSome, is_some, if◌then◌else◌}
use Rattle.std.specs.Option.{option_or, IfSome}
use Rattle.std.specs.List.{AllByRecursion, list_all}
use Rattle.tm_word.specs.Prelude.{is_empty}
use Rattle.tm_rules.specs.Prelude.{Trace, book_answer, code_of, first_query, numbered}
use Rattle.tm_rules.specs.Types.{Book, Query, Reply, Run, Step, Tree}
use Rattle.tm_legal.specs.Prelude.{History, Replies, Scene, SupervisorActs, is_answer, is_attach, is_detach, is_end, is_of_supervisor, newest, opening_of, places, seen_by_tree, step_at}
use Rattle.tm_verify_laws.specs.First.{FirstFails, first_failing, AllAfter, FirstFailsAfter, first_failing_after}

-- ---- what may be done

-- some of these steps passes
abbrev pub HasSome : (Step → Bool) → History → Type 0
HasSome test before = 0 < length (places test before)

-- the supervisor has come, and hasn't left
pub record IsThere (before : History) : Type 0 where
  pub came : HasSome is_attach before
  pub stays : ¬ HasSome is_detach before

-- each tree has ended
abbrev pub AllEnded : Scene → History → Type 0
AllEnded scene before =
    (t : ℕ) (tree : Tree) → numbered scene.trace t ≡ Some tree → HasSome (is_end t) before

-- the supervisor may give this answer: the book allows one more, and it is the book's, for the
-- first unanswered query
pub record MayAnswer (scene : Scene) (book : Book) (before : History) (serial code : ℕ) : Type 0 where
  pub there : IsThere before
  pub room : IfSome book.stop (λ stop. length (places is_answer before) < stop)
  pub by_book : (query : Query) × (first_query (newest scene before).queries ≡ Some query)
      × (query.serial ≡ serial) × (code_of (book_answer book query) ≡ code)

-- the supervisor may leave: after the book's number of answers, or after all trees' ends with no
-- query unanswered
pub record MayLeave (scene : Scene) (book : Book) (before : History) : Type 0 where
  pub there : IsThere before
  pub due : (book.stop ≡ Some (length (places is_answer before)))
      ⊎ (AllEnded scene before × (first_query (newest scene before).queries ≡ None))

-- tree t may end: it hasn't yet, and all that its takes have seen is below the next step's number
pub record MayEnd (scene : Scene) (run : Run) (before : History) (t : ℕ) : Type 0 where
  pub once : ¬ HasSome (is_end t) before
  pub above : AllByRecursion (λ version. version < suc (length before)) (seen_by_tree scene run t)

-- after these steps the step leaves the clause of the supervisor within reach
abbrev pub MayAct : Scene → Run → Book → History → Step → Type 0
MayAct scene run book before Step.Attach = ¬ HasSome is_attach before
MayAct scene run book before (Step.Answer serial code) = MayAnswer scene book before serial code
MayAct scene run book before Step.Detach = MayLeave scene book before
MayAct scene run book before (Step.End t) = MayEnd scene run before t
MayAct scene run book before _ = ⊤

-- the same of a step with its reply
abbrev pub IsAllowed : Scene → Run → Book → History → Step × Reply → Type 0
IsAllowed scene run book before pair = MayAct scene run book before pair.0

-- nothing is missing: the supervisor has come and left, and each tree has ended
pub record IsComplete (scene : Scene) (history : History) : Type 0 where
  pub came : HasSome is_attach history
  pub left : HasSome is_detach history
  pub ended : AllEnded scene history

-- the step is made also where there is no supervisor
abbrev pub NeedsNoSupervisor : Step × Reply → Type 0
NeedsNoSupervisor pair = is_of_supervisor pair.0 ≡ false

-- no step is at fault, and none is missing
abbrev pub DeskHolds : Scene → Run → Type 0
DeskHolds scene run = go scene.book
  where
    go : Option Book → Type 0
    go None = AllByRecursion NeedsNoSupervisor run.steps
    go (Some book) = AllAfter (IsAllowed scene run book) [] run.steps × IsComplete scene run.steps

-- the least step that the clause of the supervisor can't have after those before it; 0 where only
-- steps are missing. Without a book it is the first step that only a supervisor's run has
abbrev pub DeskFails : Scene → Run → ℕ → Type 0
DeskFails scene run k = go scene.book
  where
    go : Option Book → Type 0
    go None = FirstFails NeedsNoSupervisor 1 run.steps k
    go (Some book) =
        FirstFailsAfter (IsAllowed scene run book) [] run.steps k
        ⊎ ((k ≡ 0) × AllAfter (IsAllowed scene run book) [] run.steps
        × ¬ IsComplete scene run.steps)

-- ---- what the code computes

-- some of these steps passes
abbrev pub has_some : (Step → Bool) → History → Bool
has_some test before = not (is_empty (places test before))

-- the supervisor has come, and hasn't left
abbrev pub is_there : History → Bool
is_there before = has_some is_attach before && not (has_some is_detach before)

-- each tree, of which the first has number t, has ended
abbrev pub trees_ended : ℕ → Trace → History → Bool
trees_ended t [] before = true
trees_ended t (tree ∷ trees) before = has_some (is_end t) before && trees_ended (suc t) trees before

-- the book allows an answer more
abbrev pub has_room : Option ℕ → ℕ → Bool
has_room None answers = true
has_room (Some stop) answers = nat_lt answers stop

-- these are the answers after which the book says that the supervisor leaves
abbrev pub is_stop : Option ℕ → ℕ → Bool
is_stop None answers = false
is_stop (Some stop) answers = stop == answers

-- the answer is for the first unanswered query, and is the book's
abbrev pub is_answered_so : Book → Option Query → ℕ → ℕ → Bool
is_answered_so book None serial code = false
is_answered_so book (Some query) serial code = query.serial == serial && code_of (book_answer book query) == code

-- the supervisor may leave: after the book's number of answers, or after all trees' ends with no
-- query unanswered
abbrev pub may_leave : Scene → Book → History → Bool
may_leave scene book before =
    is_stop book.stop (length (places is_answer before))
    || (trees_ended 1 scene.trace before
    && not (is_some (first_query (newest scene before).queries)))

-- all that a tree's takes have seen is below this number
abbrev pub is_above : Scene → Run → ℕ → ℕ → Bool
is_above scene run t number = list_all (λ version. nat_lt version number) (seen_by_tree scene run t)

-- after these steps the step leaves the clause of the supervisor within reach
unfoldable pub may_act : Scene → Run → Book → History → Step → Bool
may_act scene run book before Step.Attach = not (has_some is_attach before)
may_act scene run book before (Step.Answer serial code) =
    is_there before
    && (has_room book.stop (length (places is_answer before))
    && is_answered_so book (first_query (newest scene before).queries) serial code)
may_act scene run book before Step.Detach = is_there before && may_leave scene book before
may_act scene run book before (Step.End t) =
    not (has_some (is_end t) before) && is_above scene run t (suc (length before))
may_act scene run book before (Step.Learn d entry) = true
may_act scene run book before (Step.Make d name) = true
may_act scene run book before (Step.Fail d) = true
may_act scene run book before (Step.Ask d retry line) = true
may_act scene run book before (Step.Edit e file line) = true

-- nothing is missing: the supervisor has come and left, and each tree has ended
abbrev pub is_complete : Scene → History → Bool
is_complete scene history =
    has_some is_attach history && (has_some is_detach history && trees_ended 1 scene.trace history)

-- the least step that the clause of the supervisor can't have after those before it; 0 where only
-- steps are missing
unfoldable pub desk_fault : Scene → Run → Option ℕ
desk_fault scene run = go scene.book
  where
    go : Option Book → Option ℕ
    go None = first_failing (λ (pair : Step × Reply). not (is_of_supervisor pair.0)) 1 run.steps
    go (Some book) =
        option_or
        (first_failing_after
        (λ before (pair : Step × Reply). may_act scene run book before pair.0) [] run.steps)
        (if is_complete scene run.steps then None else Some 0)

-- ---- the laws

-- an End names a tree that is there, as each one does that has a reply
abbrev pub EndsAreOfTrees : Scene → History → Type 0
EndsAreOfTrees scene history =
    (t number : ℕ) → step_at history number ≡ Some (Step.End t) → IsSome (numbered scene.trace t)

-- where each reply is right, the clause holds exactly where no step is at fault and none is missing
abbrev pub DeskDecides : Type 0
DeskDecides =
    (scene : Scene) (run : Run) → Replies scene.grammar (opening_of scene) run.steps
    → DeskHolds scene run ↔ SupervisorActs scene run

-- what is computed is that least step, where there is one
abbrev pub DeskFaultFinds : Type 0
DeskFaultFinds =
    (scene : Scene) (run : Run)
    → ((desk_fault scene run ≡ None) ↔ DeskHolds scene run)
    × ((k : ℕ) → (desk_fault scene run ≡ Some k) ↔ DeskFails scene run k)

-- no step after a step at fault mends it: where each reply is right, no run of these takes that
-- begins with the same steps up to that one meets the clause
abbrev pub DeskFaultStays : Type 0
DeskFaultStays =
    (scene : Scene) (run other : Run) (k : ℕ) → DeskFails scene run (suc k)
    → run.takes ≡ other.takes → take (suc k) run.steps ≡ take (suc k) other.steps
    → Replies scene.grammar (opening_of scene) other.steps → ¬ SupervisorActs scene other
