use Rattle.std.proofs.Common.{◌≡◌, ◌++◌, take}
use Rattle.std.specs.List.{flat_map}
use Rattle.tm_log_trace.specs.Made.{note_text}
use Rattle.tm_log_trace.proofs.report.push_all.Given as goal

-- the lines so far
abbrev pub invariant-loop-note : goal.invariant-loop-note
invariant-loop-note l = l.out.items ≡ l.initial.out.items ++ flat_map note_text (take l.note-index l.notes)
