use Rattle.std.proofs.Common.{◌≡◌, ◌+◌, ◌≤◌, ◌++◌, take}
use Rattle.tm_run.specs.Room.{room}
use Rattle.tm_run.proofs.room.put_text.Given as goal

-- what is written, and what room that took
abbrev pub invariant-loop-byte : goal.invariant-loop-byte
invariant-loop-byte l = (l.out.items ≡ l.initial.out.items ++ take l.byte-index l.text) × (room l.initial.out ≤ room l.out + l.byte-index)
