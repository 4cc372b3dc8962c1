-- How a tree passes the lines before its next request.
use Rattle.std.specs.Prelude.{◌≡◌, ℕ, List, [], ◌∷◌, Option, Some, None}
use Rattle.tm_rules.specs.Types.{Item, Request}
use Rattle.tm_rules.specs.Prelude.{Grammar}
use Rattle.tm_legal.specs.Prelude.{Situations, do_pids, passed}

-- one line more: it is passed, or it is the next request
abbrev pub PassesLine : Option (ℕ × Request) → Item → Situations → Situations → Type 0
PassesLine None item at later =
    (items : List Item) → ((g : Grammar) → passed g later items ≡ passed g at (item ∷ items))
    × (do_pids (item ∷ items) ≡ do_pids items)
PassesLine (Some next) item at later = (item ≡ Item.Do next.0 next.1) × (later ≡ at)

-- no request is left, and nothing changes
pub record IsPast (at : Situations) (items : List Item) (later : Situations)
    (left : List Item) : Type 0 where
  pub none : do_pids items ≡ []
  pub past : (g : Grammar) → (passed g at items).1 ≡ []
  pub same_at : later ≡ at
  pub same_items : left ≡ items

-- the way to the next request: nothing changes where none is left, else the lines before it are
-- passed
abbrev pub Passes : Option (ℕ × Request) → Situations → List Item → Situations → List Item → Type 0
Passes None at items later left = IsPast at items later left
Passes (Some next) at items later left =
    (g : Grammar) → passed g at items ≡ (later, Item.Do next.0 next.1 ∷ left)
