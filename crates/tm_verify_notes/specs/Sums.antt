-- Takes by the notes of their looks.
use Rattle.std.specs.Prelude.{◌≡◌, Bool, Some}
use Rattle.tm_verify_notes.specs.declared.notes.LookNote.{LookNote}
use Rattle.tm_verify_notes.specs.declared.notes.PartNote.{PartNote}
use Rattle.tm_verify_notes.specs.declared.sums.TakeNote.{TakeNote}
use Rattle.tm_verify_notes.specs.declared.sums.Flag.{Flag}

-- all of it was noted
pub record Completes (part : PartNote) (note : LookNote) : Type 0 where
  pub verdict : part.verdict ≡ Some note.verdict
  pub hears : part.hears ≡ Some note.hears

-- one of the four things that are noted of a take
abbrev pub flag : Flag → TakeNote → Bool
flag Flag.Holds note = note.holds
flag Flag.Owns note = note.owns
flag Flag.Hears note = note.hears
flag Flag.Ends note = note.ends
