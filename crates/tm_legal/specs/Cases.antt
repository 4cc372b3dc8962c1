-- When one take is legal, and when all takes of a tree are: by their own lines and a history alone.
use Rattle.std.specs.Prelude.{◌≡◌, ℕ, ◌<◌, ◌≤◌, List, [], ◌∷◌, length, map, Some}
use Rattle.std.specs.Option.{IfSome}
use Rattle.std.specs.List.{AllByRecursion}
use Rattle.tm_rules.specs.Types.{Look, Run, Take, Tree}
use Rattle.tm_legal.specs.Run.{Case, History, seen, at_start, tree_cases, do_pids, all_do_pids}
use Rattle.tm_legal.specs.Legal.{Scene, Subject, subject_of, LookHolds, OwnSteps, LookHears, LooksRise, LooksFollow, EndsWith, last_look, EachCase, StepsHavePlaces, SupervisorActs, Legal}

-- a look of which all that is asked was made and heard, and all that it has seen is of the history
pub record LookDone (scene : Scene) (history : History) (s : Subject) (look : Look) : Type 0 where
  pub holds : LookHolds scene history s look
  pub owns : OwnSteps scene history s look
  pub hears : LookHears scene history look
  pub version : look.version ≤ length history
  pub bounds : AllByRecursion (λ n. n ≤ length history) look.own
  pub sees : AllByRecursion (λ n. n ≤ length history) (seen look)

-- a take that the history allows for its `do` line, whoever else made steps meanwhile: it begins in
-- its process's domain, its looks rise from its process's floor and are done, each follows the one
-- before as it should, and the last one ends the take
pub record IsLegalTake (scene : Scene) (history : History) (c : Case) : Type 0 where
  pub some : 0 < length c.taken.looks
  pub before : c.now.domain ≡ Some c.taken.before
  pub rises : LooksRise history c.now.floor c.taken.looks
  pub looks : AllByRecursion (LookDone scene history (subject_of c)) c.taken.looks
  pub follows : LooksFollow history 0 c.taken.looks
  pub ends : IfSome (last_look c.taken.looks) (EndsWith scene history (subject_of c) c.taken)

-- A run is legal where there is one take for each `do` line, each take is legal, each step has its
-- place, and the supervisor acts as it should.
abbrev pub LegalTakesMakeLegalRuns : Type 0
LegalTakesMakeLegalRuns =
    (scene : Scene) (run : Run) → map (λ (t : Take). t.pid) run.takes ≡ all_do_pids scene.trace
    → EachCase scene run (IsLegalTake scene run.steps)
    → StepsHavePlaces scene run → SupervisorActs scene run → Legal scene run

-- a tree whose takes have all ended: one for each `do` line, each as the history allows
pub record TreePlayed (scene : Scene) (history : History) (t : ℕ) (tree : Tree) (takes : List Take) : Type 0 where
  pub pids : map (λ (k : Take). k.pid) takes ≡ do_pids tree.records
  pub cases : AllByRecursion (IsLegalTake scene history)
      (tree_cases t (at_start scene.policy tree) tree.records takes)
