use Rattle.std.proofs.Common.{◌≡◌, ◌+◌, ◌≤◌, drop}
use Rattle.tm_verify_laws.specs.First.{first_failing}
use Rattle.tm_verify_notes.specs.Sums.{flag}
use Rattle.tm_verify_notes.proofs.sums.take_fault.Given as goal

-- from here on it finds what the whole finds
abbrev pub invariant-loop-note : goal.invariant-loop-note
invariant-loop-note l =
    (first_failing (flag l.which) l.number (drop l.note-index l.notes) ≡ first_failing (flag l.which) 1 l.notes) × (l.number ≤ l.note-index + 1)
