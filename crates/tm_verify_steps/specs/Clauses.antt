-- The clauses in their order.
use Rattle.std.specs.Prelude.{◌≡◌, ℕ, suc, ◌<◌, List, Option, MatchOption}
use Rattle.tm_rules.specs.Types.{Run}
use Rattle.tm_legal.specs.Prelude.{Legal, Scene, cases_of}
use Rattle.tm_verify_laws.specs.declared.broken.Broken.{Broken}
use Rattle.tm_verify_laws.specs.Broken.{Clause, IsFirstBroken}
use Rattle.tm_verify_notes.specs.declared.given.Given.{Given}
use Rattle.tm_verify_notes.specs.declared.sums.TakeNote.{TakeNote}
use Rattle.tm_verify_notes.specs.Given.{scene_of, history_of, run_of}
use Rattle.tm_take.specs.Each.{EachWith}
use Rattle.tm_verify_notes.specs.Noting.{IsTakeNote}

-- the clauses below this number hold
pub record HoldBelow (given : Given) (n : ℕ) : Type 0 where
  pub each : (clause : ℕ) → clause < n → Clause clause (scene_of given) (run_of given)

-- none where the run is legal, else the clause that it breaks first, with its place
abbrev pub IsJudged : Given → Option Broken → Type 0
IsJudged given broken =
    MatchOption broken (Legal (scene_of given) (run_of given)) (IsFirstBroken (scene_of given) (run_of given))

-- these were noted of the takes
abbrev pub NotesTakes : Given → List TakeNote → Type 0
NotesTakes given notes =
    EachWith (IsTakeNote (scene_of given) (history_of given)) (cases_of (scene_of given) (run_of given)) notes
