-- Which clause a run breaks first, and where.
use Rattle.std.specs.Prelude.{◌≡◌, ℕ, zero, suc, ◌⊎◌, ◌<◌, ⊤, List, [], ◌∷◌, length}
use Rattle.std.specs.Option.{IfSome}
use Rattle.std.specs.List.{AllByRecursion}
use Rattle.tm_rules.specs.Types.{Run, Take}
use Rattle.tm_legal.specs.Prelude.{AnswersAreHeard, Case, EndsWith, Legal, LooksRise, OutcomesHold, OwnSteps, Scene, StepsAreAsked, StepsHavePlaces, SupervisorActs, TakeHears, TakeHolds, TakesInOrder, VerdictsHold, VersionsRise, all_do_pids, cases_of, last_look, subject_of}
use Rattle.tm_verify_laws.specs.First.{FirstFails}
use Rattle.tm_verify_laws.specs.Placed.{PlacesFail}
use Rattle.tm_verify_laws.specs.Desk.{DeskFails}
use Rattle.tm_verify_laws.specs.declared.broken.Broken.{Broken}

-- ---- what one take has to meet

-- a take and a `do` line belong together
abbrev pub Belongs : Take → ℕ → Type 0
Belongs t pid = (t.pid ≡ pid) × (0 < length t.looks)

-- the first number at which they don't, or only one of the two is there
abbrev pub PairsFail : ℕ → List Take → List ℕ → ℕ → Type 0
PairsFail n [] [] k = ⊥
PairsFail n (t ∷ takes) [] k = k ≡ n
PairsFail n [] (pid ∷ pids) k = k ≡ n
PairsFail n (t ∷ takes) (pid ∷ pids) k =
    ((k ≡ n) × ¬ Belongs t pid) ⊎ (Belongs t pid × PairsFail (suc n) takes pids k)

-- no look below the floor or above the last version
abbrev pub TakeRises : Run → Case → Type 0
TakeRises run c = LooksRise run.steps c.now.floor c.taken.looks

-- the own steps of its looks
abbrev pub TakeOwns : Scene → Run → Case → Type 0
TakeOwns scene run c = AllByRecursion (OwnSteps scene run.steps (subject_of c)) c.taken.looks

-- its outcome
abbrev pub TakeEnds : Scene → Run → Case → Type 0
TakeEnds scene run c = IfSome (last_look c.taken.looks) (EndsWith scene run.steps (subject_of c) c.taken)

-- ---- the clauses, by number

-- the clause of this number
abbrev pub Clause : ℕ → Scene → Run → Type 0
Clause zero scene run = ⊤
Clause (suc zero) scene run = TakesInOrder scene run
Clause (suc (suc zero)) scene run = VersionsRise scene run
Clause (suc (suc (suc zero))) scene run = VerdictsHold scene run
Clause (suc (suc (suc (suc zero)))) scene run = StepsAreAsked scene run
Clause (suc (suc (suc (suc (suc zero))))) scene run = StepsHavePlaces scene run
Clause (suc (suc (suc (suc (suc (suc zero)))))) scene run = SupervisorActs scene run
Clause (suc (suc (suc (suc (suc (suc (suc zero))))))) scene run = AnswersAreHeard scene run
Clause (suc (suc (suc (suc (suc (suc (suc (suc zero)))))))) scene run = OutcomesHold scene run
Clause (suc (suc (suc (suc (suc (suc (suc (suc (suc n))))))))) scene run = ⊤

-- the clause of this number fails at this place and at no lesser one: at a take, or at a step
abbrev pub Breaks : ℕ → Scene → Run → ℕ → Type 0
Breaks zero scene run k = ⊥
Breaks (suc zero) scene run k = PairsFail 1 run.takes (all_do_pids scene.trace) k
Breaks (suc (suc zero)) scene run k = FirstFails (TakeRises run) 1 (cases_of scene run) k
Breaks (suc (suc (suc zero))) scene run k = FirstFails (TakeHolds scene run.steps) 1 (cases_of scene run) k
Breaks (suc (suc (suc (suc zero)))) scene run k = FirstFails (TakeOwns scene run) 1 (cases_of scene run) k
Breaks (suc (suc (suc (suc (suc zero))))) scene run k = PlacesFail scene run k
Breaks (suc (suc (suc (suc (suc (suc zero)))))) scene run k = DeskFails scene run k
Breaks (suc (suc (suc (suc (suc (suc (suc zero))))))) scene run k =
    FirstFails (TakeHears scene run.steps) 1 run.takes k
Breaks (suc (suc (suc (suc (suc (suc (suc (suc zero)))))))) scene run k =
    FirstFails (TakeEnds scene run) 1 (cases_of scene run) k
Breaks (suc (suc (suc (suc (suc (suc (suc (suc (suc n))))))))) scene run k = ⊥

-- the clauses before hold, and this one fails there
pub record IsFirstBroken (scene : Scene) (run : Run) (broken : Broken) : Type 0 where
  pub earlier : (clause : ℕ) → clause < broken.clause → Clause clause scene run
  pub breaks : Breaks broken.clause scene run broken.place

-- ---- the laws

-- a run of which a clause breaks first isn't legal
abbrev pub BrokenIsNotLegal : Type 0
BrokenIsNotLegal =
    (scene : Scene) (run : Run) (broken : Broken) → IsFirstBroken scene run broken
    → ¬ Legal scene run

-- there is one first
abbrev pub BrokenOnce : Type 0
BrokenOnce =
    (scene : Scene) (run : Run) (one other : Broken) → IsFirstBroken scene run one
    → IsFirstBroken scene run other → one ≡ other
