-- An editor on its way from a seat.
use Rattle.std.specs.Prelude.{◌≡◌, ℕ, List, ◌∷◌, [], ◌++◌}
use Rattle.tm_word.specs.Prelude.{Text}
use Rattle.tm_rules.specs.Types.{FileKind, Made, Maker, Start}
use Rattle.tm_joint.specs.Played.{LinesMade}
use Rattle.tm_seat.specs.Seats.{FitsFrom, Begins, MadeBy}
use Rattle.tm_seat.specs.Rows.{Shift}

-- an editor that has made these lines, by what its seat knows and has made
pub record IsEditing (start : Start) (shift : Shift) (editor : ℕ) (list : List Made) (own : List ℕ)
    (done : List (FileKind × Text)) : Type 0 where
  pub fitted : FitsFrom start list
  pub begins : Begins shift.known list
  pub numbers : List ℕ
  pub made : own ≡ shift.before ++ numbers
  pub lines : LinesMade list editor done numbers
  pub makers : MadeBy (Maker.Editor editor ∷ []) shift.known shift.before list own

-- one line more
abbrev pub EditsOn : Start → ℕ → List Made → List ℕ → List Made → List ℕ → FileKind × Text → Type 0
EditsOn start editor old before new own line =
    (shift : Shift) (done : List (FileKind × Text)) → IsEditing start shift editor old before done
    → IsEditing start shift editor new own (done ++ line ∷ [])
