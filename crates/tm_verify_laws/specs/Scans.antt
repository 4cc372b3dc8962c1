-- Tests of the first clauses, and the numbers that they find.
use Rattle.std.specs.Prelude.{◌≡◌, ◌↔◌, ℕ, suc, ◌==◌, ◌&&◌, ◌<◌, nat_le, Bool, true, List, [], ◌∷◌, length, map, Option, Some, None, if◌then◌else◌, not}
use Rattle.std.specs.List.{AllByRecursion}
use Rattle.tm_word.specs.Prelude.{is_empty}
use Rattle.tm_rules.specs.Types.{Look, Run, Take}
use Rattle.tm_legal.specs.Prelude.{Case, History, LooksRise, Scene, StepsAreAsked, TakesInOrder, VerdictsHold, cases_of, raised, seen}
use Rattle.tm_verify_laws.specs.Placed.{OwnAreSteps}
use Rattle.tm_verify_laws.specs.Broken.{PairsFail}

-- a take and a `do` line belong together
abbrev pub do_belong : Take → ℕ → Bool
do_belong t pid = t.pid == pid && not (is_empty t.looks)

-- the first number at which they don't, or only one of the two is there
abbrev pub pairs_fault : ℕ → List Take → List ℕ → Option ℕ
pairs_fault n [] [] = None
pairs_fault n (t ∷ takes) [] = Some n
pairs_fault n [] (pid ∷ pids) = Some n
pairs_fault n (t ∷ takes) (pid ∷ pids) = if do_belong t pid then pairs_fault (suc n) takes pids else Some n

-- no look is below the floor or above the last version
abbrev pub do_rise : ℕ → ℕ → List Look → Bool
do_rise count floor [] = true
do_rise count floor (look ∷ looks) =
    (nat_le floor look.version && nat_le look.version count)
    && do_rise count (raised floor (seen look)) looks

-- a scan of takes and `do` lines finds what the clause says
abbrev pub PairsDecide : Type 0
PairsDecide =
    (takes : List Take) (pids : List ℕ)
    → ((pairs_fault 1 takes pids ≡ None)
    ↔ ((map (λ (t : Take). t.pid) takes ≡ pids) × AllByRecursion (λ (t : Take). 0 < length t.looks) takes))
    × ((k : ℕ) → pairs_fault 1 takes pids ≡ Some k → PairsFail 1 takes pids k)

-- the test of rising versions is their relation
abbrev pub RisingDecides : Type 0
RisingDecides =
    (history : History) (floor : ℕ) (looks : List Look)
    → (do_rise (length history) floor looks ≡ true) ↔ LooksRise history floor looks

-- where the clauses of takes, verdicts and own steps hold, each own number is a step's
abbrev pub OwnNumbersAreSteps : Type 0
OwnNumbersAreSteps =
    (scene : Scene) (run : Run) → TakesInOrder scene run → VerdictsHold scene run
    → StepsAreAsked scene run → OwnAreSteps run

-- where the clause of takes holds, the n-th `do` line has the n-th take
abbrev pub CasesTakeAll : Type 0
CasesTakeAll =
    (scene : Scene) (run : Run) → TakesInOrder scene run
    → map (λ (c : Case). c.taken) (cases_of scene run) ≡ run.takes
