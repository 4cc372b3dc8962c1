use Rattle.std.proofs.Common.{◌≡◌, ◌++◌, drop}
use Rattle.tm_rows.specs.Pieces.{pieces_text}
use Rattle.tm_rows.proofs.comparing.wanted_put.Given as goal

-- the pieces so far, and those that are still to come
abbrev pub invariant-loop-piece : goal.invariant-loop-piece
invariant-loop-piece l = l.bytes.items ++ pieces_text (drop l.piece-index l.row.put.items) ≡ pieces_text l.row.put.items
