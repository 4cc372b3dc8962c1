use Rattle.std.proofs.Common.{◌≡◌, ◌++◌, length}
use Rattle.tm_seat.specs.Parts.{editor_parts}
use Rattle.tm_seat.proofs.part.push_editors.Given as goal

abbrev pub invariant-loop-editor : goal.invariant-loop-editor
invariant-loop-editor g l =
    (l.parts.items ≡ l.initial.parts.items ++ editor_parts 1 l.yielded)
    × (l.number ≡ length l.yielded)
