-- What is noted of a look beside what its version shows.
use Rattle.std.specs.Prelude.{◌≡◌, ◌↔◌, true, false, Option, Some, None}
use Rattle.tm_rules.specs.Types.{Look}
use Rattle.tm_take.specs.declared.judged.Judged.{Judged}
use Rattle.tm_legal.specs.Prelude.{Case, History, MakesAfterYes, RisesFrom}
use Rattle.tm_verify_notes.specs.declared.notes.VerdictNote.{VerdictNote}
use Rattle.tm_verify_notes.specs.Noting.{IsVerdictNote}

-- beside the verdict and its audit text; beside none nothing is shown, and own steps need no more
-- than their order
abbrev pub IsNotedBeside : History → Case → Look → Option Judged → VerdictNote → Type 0
IsNotedBeside history c look None note =
    (note.shown ≡ false)
    × ((note.owns ≡ true) ↔ (RisesFrom look.version look.own × MakesAfterYes look))
    × (note.audited ≡ true)
IsNotedBeside history c look (Some found) note =
    IsVerdictNote history c.taken.before c.taken.audit found.audit look found.verdict note
