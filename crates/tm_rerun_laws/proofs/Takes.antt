-- The two parts of what the verdicts of each take say.
use Rattle.std.proofs.Common.{◌≡◌, Some}
use Rattle.std.specs.List.{AllByRecursion}
use Rattle.tm_rules.specs.Types.{Run}
use Rattle.tm_legal.specs.Prelude.{Case, EachCase, Legal, LookHolds, Scene, TakeHolds, cases_of, subject_of}
use Rattle.tm_rerun_laws.proofs.Lists.{All-to}

-- each take begins in the domain that its process is in
pub all_begin : (scene : Scene) (run : Run) → Legal scene run → EachCase scene run (λ c. c.now.domain ≡ Some c.taken.before)
all_begin scene run legal = All-to (TakeHolds scene run.steps) (λ (c : Case). c.now.domain ≡ Some c.taken.before) (cases_of scene run) (λ c h. h.before) legal.verdicts

-- each look holds
pub all_hold : (scene : Scene) (run : Run) → Legal scene run → EachCase scene run (λ c. AllByRecursion (LookHolds scene run.steps (subject_of c)) c.taken.looks)
all_hold scene run legal = All-to (TakeHolds scene run.steps) (λ (c : Case). AllByRecursion (LookHolds scene run.steps (subject_of c)) c.taken.looks) (cases_of scene run) (λ c h. h.shown) legal.verdicts
