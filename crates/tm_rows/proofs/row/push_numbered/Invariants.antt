use Rattle.std.proofs.Common.{◌≡◌, ◌++◌, drop}
use Rattle.tm_rows.specs.Pieces.{numbered}
use Rattle.tm_rows.proofs.row.push_numbered.Given as goal

-- what has been appended, and what is still to be
abbrev pub invariant-loop-byte : goal.invariant-loop-byte
invariant-loop-byte l = l.out.items ++ numbered l.number (drop l.byte-index l.bytes) ≡ l.initial.out.items ++ numbered l.number l.bytes
