use Rattle.std.proofs.Common.{◌≡◌, ◌++◌}
use Rattle.tm_rows.specs.Pieces.{copies_text}
use Rattle.tm_rows.proofs.row.push_piece.Given as goal

-- the copies so far
abbrev pub invariant-loop-before : goal.invariant-loop-before
invariant-loop-before l = l.out.items ≡ l.initial.out.items ++ copies_text l.piece l.before
