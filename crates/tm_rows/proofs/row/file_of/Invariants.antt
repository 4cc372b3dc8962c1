use Rattle.std.proofs.Common.{◌≡◌, ◌++◌, drop}
use Rattle.std.specs.Prelude.{◌||◌}
use Rattle.tm_rows.specs.Pieces.{file_text, has_piece}
use Rattle.tm_rows.proofs.row.file_of.Given as goal

-- the pieces so far, and those that are still to come; and whether there was one
abbrev pub invariant-loop-other : goal.invariant-loop-other
invariant-loop-other l =
    (l.bytes.items ++ file_text (drop l.other-index l.pieces) l.name ≡ file_text l.pieces l.name)
    × ((l.is_there || has_piece (drop l.other-index l.pieces) l.name) ≡ has_piece l.pieces l.name)
