-- How a call ends, and what it leaves, compared with what a row says.
use Rattle.std.specs.Prelude.{◌==◌, ◌&&◌, ◌||◌, Bool, true, false, List, [], ◌∷◌, Option, Some, None}
use Rattle.std.specs.List.{list_all}
use Rattle.tm_word.specs.Prelude.{Text, texts_equal}
use Rattle.tm_io.specs.Memory.{InMemory, state_in, held_in}
use Rattle.tm_io.specs.declared.names.FileName.{FileName}
use Rattle.tm_call.specs.declared.status.Status.{Status}
use Rattle.tm_call.specs.Status.{exit_code, status_text}
use Rattle.tm_rows.specs.declared.row.Row.{Row}
use Rattle.tm_rows.specs.Pieces.{expected, pieces_text}

-- two files, of which each may be missing
abbrev pub is_same : Option Text → Option Text → Bool
is_same None None = true
is_same None (Some found) = false
is_same (Some wanted) None = false
is_same (Some wanted) (Some found) = texts_equal wanted found

-- a call ends as a row says: with its status, and with its line where that isn't 0
abbrev pub ends_so : Row → Status → Bool
ends_so row status =
    exit_code status == row.status && (row.status == 0 || texts_equal (status_text status) row.said)

-- a file in memory is as a row expects it
abbrev pub holds_so : Row → InMemory → FileName → Bool
holds_so row shelf name = is_same (expected row name) (held_in (state_in shelf.files name))

-- the files of these names are
abbrev pub all_hold_so : Row → InMemory → List FileName → Bool
all_hold_so row shelf names = list_all (λ name. holds_so row shelf name) names

-- standard output is
abbrev pub puts_so : Row → Text → Bool
puts_so row bytes = texts_equal (pieces_text row.put.items) bytes

-- all of it: the files of these names, how the call ends, and standard output
abbrev pub agrees : Row → List FileName → InMemory → Status → Text → Bool
agrees row names shelf status put =
    all_hold_so row shelf names && ends_so row status && puts_so row put
