use Rattle.std.proofs.Common.{◌≡◌, ◌++◌, drop}
use Rattle.tm_rows.specs.Cutting.{zeroed}
use Rattle.tm_rows.proofs.cutting.zeroed.Given as goal

-- the bytes so far, and those that are still to come
abbrev pub invariant-loop-byte : goal.invariant-loop-byte
invariant-loop-byte l = l.text.items ++ zeroed (drop l.byte-index l.bytes) ≡ zeroed l.bytes
