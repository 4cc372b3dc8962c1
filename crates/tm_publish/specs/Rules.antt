-- The rule of the history, and what its steps tell.
use Rattle.std.specs.Prelude.{ℕ, ◌≡◌, ◌<◌, ◌==◌, true, List, [], ◌∷◌, ◌++◌, length, MatchBool}
use mathlib.Core.List.{IsPrefix}
use Rattle.logbook.specs.Pages.{Cell, cell, Step, View, Book, Named, may_make}
use Rattle.tm_publish.specs.declared.event.Event.{Event}
use Rattle.tm_publish.specs.History.{next_key}

-- the word 0 counts the entries, and the pen that one entry names is used up once another follows
pub record IsKept {P S : Type 0} (cells : List Cell) (log : List (Event P S)) : Type 0 where
  pub long : 0 < length cells
  pub head : cell cells 0 ≡ (length log, true)
  pub second : (cell cells 1).1 ≡ true
  pub closed : (xs : List (Event P S)) (y : Event P S) (ys : List (Event P S)) → log ≡ xs ++ y ∷ ys → (cell cells (next_key xs)).1 ≡ true

abbrev pub head_of : Book → Named
head_of b = record { tracked = true; key = 0; book = b }

abbrev pub no_book : Book
no_book = record { number = 0; log_name = 0; cells_name = 0 }

-- the entry was added to all that had been seen, where the word was as expected
abbrev pub Begins : {E A : Type 0} → Step E → View E A → ℕ → View E A → Type 0
Begins s v found w = MatchBool (found == s.old) (w.0 ≡ v.0 ++ s.ask ∷ []) (Unit {0})

-- the entry was added to all that had been seen, which was all
abbrev pub Adds : {E A : Type 0} → Step E → View E A → ℕ → View E A → Type 0
Adds s v found w = (length v.0 ≡ s.old) × (w.0 ≡ v.0 ++ s.ask ∷ [])

-- nothing was added, and what had been seen is no more than the beginning whose next entry is the pen's
abbrev pub IsWhole : {P S A : Type 0} → Step (Event P S) → View (Event P S) A → ℕ → View (Event P S) A → Type 0
IsWhole {P} {S} s v found w = ((xs : List (Event P S)) → IsPrefix xs v.0 → v.1.0.key ≡ next_key xs → v.0 ≡ xs) × (w.1.0 ≡ v.1.0)

-- a pen was made
abbrev pub Grows : {E A : Type 0} → Step E → View E A → ℕ → View E A → Type 0
Grows s v found w = w.1.0.right ≡ may_make
