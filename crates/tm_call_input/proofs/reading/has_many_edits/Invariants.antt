use Rattle.std.proofs.Common.{◌≡◌, ◌+◌, drop}
use Rattle.tm_script.specs.Written.{edit_count}
use Rattle.tm_call_input.proofs.reading.has_many_edits.Given as goal

-- the room that is left, and what is still to come
abbrev pub invariant-loop-editor : goal.invariant-loop-editor
invariant-loop-editor l = edit_count l.editors + l.room ≡ 10000 + edit_count (drop l.editor-index l.editors)
