-- The entries of ACL groups: what a line adds to them and takes from them.
use Rattle.std.specs.Prelude.{ℕ, List}
use Rattle.std.specs.List.{AllByRecursion}
use Rattle.tm_rules.specs.Types.{Entry, GroupLine, Namespace}
use Rattle.tm_rules.specs.Prelude.{IsShort, acl_group, adding, deleting, with_group}
use Rattle.tm_list.specs.Map.{Rises}

-- the namespace with a line more in its group
abbrev pub line_added : GroupLine → Namespace → Namespace
line_added line ns = with_group line.group (adding line.entry (acl_group ns line.group)) ns

-- the namespace with a line taken out of its group
abbrev pub line_taken : GroupLine → Namespace → Namespace
line_taken line ns = with_group line.group (deleting line.entry (acl_group ns line.group)) ns

-- the entries of each group are short
abbrev pub AreShort : List (ℕ × List Entry) → Type 0
AreShort groups = AllByRecursion (λ (group : ℕ × List Entry). IsShort group.1) groups

-- the numbers of a map rise
abbrev pub Rising : {A : Type 0} → List (ℕ × A) → Type 0
Rising xs = Rises (λ (n : ℕ). n) xs
