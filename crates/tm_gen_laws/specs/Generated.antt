-- The files that `gen` generates, as they are read.
use Rattle.std.specs.Prelude.{◌≡◌, ℕ, ◌≤◌, [], ◌∷◌, None}
use Rattle.tm_gen.specs.Files.{generated}
use Rattle.tm_io.specs.declared.names.FileName.{FileName}
use Rattle.tm_call.specs.Fetches.{Texts}
use Rattle.tm_call_input.specs.Reading.{step_refusal}

-- the files that `gen` generates of a seed and a size, in order
abbrev pub generated_files : ℕ → ℕ → Texts
generated_files seed size =
    (FileName.Profile, (generated seed size).profile) ∷ (FileName.ExceptionPolicy, (generated seed size).exception)
    ∷ (FileName.DomainPolicy, (generated seed size).domain) ∷ (FileName.Manager, (generated seed size).manager)
    ∷ (FileName.Trace, (generated seed size).trace) ∷ []

-- nothing of them is refused: they are read, within all limits, and each tree starts in a live
-- domain
abbrev pub NeverRefused : Type 0
NeverRefused = (seed size : ℕ) → size ≤ 4096 → step_refusal (generated_files seed size) ≡ None
