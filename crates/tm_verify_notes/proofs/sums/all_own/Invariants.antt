use Rattle.std.proofs.Common.{◌≡◌, drop}
use Rattle.std.specs.List.{list_all}
use Rattle.tm_verify_notes.specs.declared.notes.LookNote.{LookNote}
use Rattle.tm_verify_notes.proofs.sums.all_own.Given as goal

-- those so far pass
abbrev pub invariant-loop-note : goal.invariant-loop-note
invariant-loop-note l =
    list_all (λ (note : LookNote). note.verdict.owns) (drop l.note-index l.notes) ≡ list_all (λ (note : LookNote). note.verdict.owns) l.notes
