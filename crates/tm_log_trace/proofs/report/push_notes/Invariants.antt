use Rattle.std.proofs.Common.{◌≡◌, ◌++◌, length}
use Rattle.tm_log_trace.specs.Made.{notes_until}
use Rattle.tm_log_trace.proofs.report.push_notes.Given as goal

-- what is written and what is still to be written are all, and the same is left
abbrev pub invariant-loop-rest : goal.invariant-loop-rest
invariant-loop-rest l =
    (l.out.items ++ (notes_until l.number l.rest).0 ≡ l.initial.out.items ++ (notes_until l.number l.notes).0)
    × ((notes_until l.number l.rest).1 ≡ (notes_until l.number l.notes).1)

abbrev pub decreases-loop-rest : goal.decreases-loop-rest
decreases-loop-rest l = length l.rest
