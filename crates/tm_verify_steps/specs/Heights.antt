-- The greatest version that the takes of each tree have seen.
use Rattle.std.specs.Prelude.{◌≡◌, ℕ, ◌==◌, List, [], ◌∷◌, if◌then◌else◌, flat_map}
use Rattle.std.specs.Option.{option_or}
use Rattle.std.specs.Prelude.{unwrap_or}
use Rattle.std.specs.Ordering.{nat_cmp}
use Rattle.std.specs.BTreeMap.{get}
use Rattle.tm_legal.specs.Prelude.{Case, raised, seen}
use Rattle.tm_verify_steps.specs.declared.heights.Heights.{Heights}

-- a number for each tree
abbrev pub ByTree : Type 0
ByTree = ℕ → ℕ

-- one tree has another number
abbrev pub with_height : ByTree → ℕ → ℕ → ByTree
with_height at tree height other = if other == tree then height else at other

-- the numbers as the code keeps them; 0 of every other tree
unfoldable pub height : Heights → ByTree
height known tree = unwrap_or (get nat_cmp known.known tree) 0

-- raised by these takes
abbrev pub raised_all : ByTree → List Case → ByTree
raised_all at [] = at
raised_all at (c ∷ cs) =
    raised_all (with_height at c.tree (raised (at c.tree) (flat_map seen c.taken.looks))) cs

-- all that the takes of a tree have seen
abbrev pub seen_in : List Case → ℕ → List ℕ
seen_in cs t = flat_map (λ (c : Case). if c.tree == t then flat_map seen c.taken.looks else []) cs
