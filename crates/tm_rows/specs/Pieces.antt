-- What the pieces of a row give.
use Rattle.std.specs.Prelude.{ℕ, zero, suc, ◌==◌, if◌then◌else◌, Bool, List, [], ◌∷◌, ◌++◌, Option, Some, None, decimal}
use Rattle.std.specs.List.{list_any}
use Rattle.tm_word.specs.Prelude.{Text}
use Rattle.tm_io.specs.Names.{same_name}
use Rattle.tm_io.specs.declared.names.FileName.{FileName}
use Rattle.tm_rows.specs.declared.row.Piece.{Piece}
use Rattle.tm_rows.specs.declared.row.Row.{Row}

-- bytes in which a number stands for each `%`
abbrev pub numbered : ℕ → Text → Text
numbered number [] = []
numbered number (b ∷ bytes) = (if b == 37 then decimal number else b ∷ []) ++ numbered number bytes

-- the copy with this number
abbrev pub copy_text : Piece → ℕ → Text
copy_text piece number = if piece.is_numbered then numbered number piece.bytes else piece.bytes

-- so many first copies, which are numbered from 1
unfoldable pub copies_text : Piece → ℕ → Text
copies_text piece zero = []
copies_text piece (suc copies) = copies_text piece copies ++ copy_text piece (suc copies)

-- all copies
abbrev pub piece_text : Piece → Text
piece_text piece = copies_text piece piece.copies

-- all pieces, joined
abbrev pub pieces_text : List Piece → Text
pieces_text [] = []
pieces_text (piece ∷ pieces) = piece_text piece ++ pieces_text pieces

-- a file's pieces, joined
abbrev pub file_text : List (FileName × Piece) → FileName → Text
file_text [] name = []
file_text (piece ∷ pieces) name =
    (if same_name piece.0 name then piece_text piece.1 else []) ++ file_text pieces name

-- a file has a piece
abbrev pub has_piece : List (FileName × Piece) → FileName → Bool
has_piece pieces name = list_any (λ piece. same_name piece.0 name) pieces

-- what pieces give of a file, none where it has none
abbrev pub file_of : List (FileName × Piece) → FileName → Option Text
file_of pieces name = if has_piece pieces name then Some (file_text pieces name) else None

-- a text, or else the other one
abbrev pub or_else : Option Text → Option Text → Option Text
or_else (Some text) other = Some text
or_else None other = other

-- what a row expects of a file: what is stored, or else what was there
abbrev pub expected : Row → FileName → Option Text
expected row name = or_else (file_of row.stored.items name) (file_of row.files.items name)
