-- What is noted of ACL groups when a line of one is added or taken out.
use Rattle.std.specs.Prelude.{ℕ, ◌==◌, ◌∷◌, ◌++◌, [], if◌then◌else◌}
use Rattle.tm_rules.specs.Prelude.{changed_at}
use Rattle.tm_index.specs.Listing.{Listed}
use Rattle.tm_index.specs.Index.{Told}

-- the lists of the groups of a namespace, one of them changed
abbrev pub group_with : ℕ → (Listed → Listed) → (ℕ → Listed) → ℕ → Listed
group_with group change lists number =
    if group == number then change (lists number) else lists number

-- the list of an ACL group of the namespace at a place is changed
abbrev pub in_group : ℕ → ℕ → (Listed → Listed) → Told → Told
in_group place group change x =
    record x { groups = changed_at place (group_with group change) x.groups }

-- a namespace with these lists, last
abbrev pub noting_lists : (ℕ → Listed) → Told → Told
noting_lists lists x = record x { groups = x.groups ++ lists ∷ [] }
