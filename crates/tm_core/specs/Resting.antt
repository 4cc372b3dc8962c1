-- Trees that rest in the default order: no turn of theirs has an event until the supervisor has
-- moved.
use Rattle.std.specs.Prelude.{◌≡◌, ◌<◌, ◌≤◌, ℕ, Bool, true, false, ◌&&◌, ◌==◌, nat_lt, nat_le, is_none, if◌then◌else◌, Option, Some, None}
use Rattle.std.specs.Option.{option_and_then, option_map_or}
use Rattle.std.specs.Ordering.{nat_cmp}
use Rattle.std.specs.BTreeSet.{contains}
use Rattle.std.specs.BTreeMap.{get}
use Rattle.tm_rules.specs.Types.{Start, Turn}
use Rattle.tm_rules.specs.Prelude.{Grammar, numbered}
use Rattle.tm_audit.specs.Tomoyo.{tomoyo_grammar}
use Rattle.tm_legal.specs.Prelude.{Player, tree_event}
use Rattle.tm_take.specs.Ways.{awaited}
use Rattle.tm_core.specs.declared.awake.Awake.{Awake}

-- the serial of the query whose answer the tree of this number, from 1, waits for
abbrev pub awaited_by : Player → ℕ → Option ℕ
awaited_by player number = option_and_then awaited (numbered player.ways number)

-- the tree of this number can't move, and is found by the serial of the query whose answer it waits
-- for
pub record Rests (g : Grammar) (desk : Bool) (player : Player) (tree_of : ℕ → Option ℕ)
    (number : ℕ) : Type 0 where
  pub still : tree_event g player desk number ≡ None
  pub found : (serial : ℕ) → awaited_by player number ≡ Some serial → tree_of serial ≡ Some number

-- the tree of this number is awake
abbrev pub is_awake : Awake → ℕ → Bool
is_awake awake number = contains nat_cmp awake.trees number

-- the tree that is found by this serial
abbrev pub tree_of : Awake → ℕ → Option ℕ
tree_of awake serial = get nat_cmp awake.waiting serial

-- one of so many trees
abbrev pub is_tree : ℕ → ℕ → Bool
is_tree trees number = nat_lt 0 number && nat_le number trees

-- the tree of this number is found by this serial
abbrev pub is_found : Awake → ℕ → ℕ → Bool
is_found awake serial number = option_map_or (λ found. found == number) (tree_of awake serial) false

-- a turn of the supervisor wakes the tree that waits for its answer, and every tree where it leaves
abbrev pub wakes : Turn → ℕ → Awake → ℕ → Bool
wakes (Turn.Answer serial code) trees awake number = is_found awake serial number
wakes Turn.Detach trees awake number = is_tree trees number
wakes _ trees awake number = false

-- the tree of this number may lie down: it waits for nothing, or no tree is found by its serial yet
abbrev pub may_lie : Awake → Option ℕ → Bool
may_lie awake None = true
may_lie awake (Some serial) = is_none (tree_of awake serial)

-- it lies down where it may, and is found by its serial from then on
pub record LiesDown (number : ℕ) (serial : Option ℕ) (old new : Awake) : Type 0 where
  pub awake : (t : ℕ)
      → is_awake new t ≡ (if may_lie old serial && number == t then false else is_awake old t)
  pub found : (k : ℕ) → tree_of new k ≡ (if may_lie old serial
      && option_map_or (λ own. own == k) serial false then Some number else tree_of old k)

-- each tree rests but for those that are awake; those and the trees that are found are trees of the
-- play
pub record OthersRest (start : Start) (player : Player) (awake : Awake) : Type 0 where
  pub rest : (t : ℕ) → 0 < t → t ≤ start.trees → is_awake awake t ≡ false
      → Rests tomoyo_grammar start.desk player (tree_of awake) t
  pub awake_there : (t : ℕ) → is_awake awake t ≡ true → (0 < t) × (t ≤ start.trees)
  pub found_there : (serial t : ℕ) → tree_of awake serial ≡ Some t → (0 < t) × (t ≤ start.trees)
