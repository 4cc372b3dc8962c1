-- The names of calls, in their order, where they are told.
use Rattle.std.specs.Prelude.{◌≡◌, Bool, List, ◌++◌, ⊤, Option, Some, None, if◌then◌else◌}
use Rattle.tm_io.specs.declared.names.FileName.{FileName}

-- calls with these names were made: what is told afterwards was told before, and has these behind
-- it
abbrev pub Noted : List FileName → Option (List FileName) → Option (List FileName) → Type 0
Noted names old None = ⊤
Noted names None (Some now) = ⊥
Noted names (Some before) (Some now) = now ≡ before ++ names

-- notes of which some were lost tell nothing
abbrev pub kept_notes : Bool → List FileName → Option (List FileName)
kept_notes lost names = if lost then None else Some names
