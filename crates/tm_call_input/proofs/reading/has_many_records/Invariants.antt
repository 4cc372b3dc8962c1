use Rattle.std.proofs.Common.{◌≡◌, ◌+◌, drop}
use Rattle.tm_call_input.specs.Reading.{record_count}
use Rattle.tm_call_input.proofs.reading.has_many_records.Given as goal

-- the room that is left, and what is still to come
abbrev pub invariant-loop-tree : goal.invariant-loop-tree
invariant-loop-tree l = record_count l.trees + l.room ≡ 200000 + record_count (drop l.tree-index l.trees)
