-- The lines of a trace that is being made.
use Rattle.std.specs.Prelude.{ℕ, ◌+◌, ◌-◌, ◌^◌, ◌==◌, nat_lt, nat_le, ◌&&◌, Bool, if◌then◌else◌, List, [], ◌∷◌, ◌++◌, length, min, map, slice_get, slice_set, Option, Some, None}
use Rattle.std.specs.List.{flat_map}
use Rattle.tm_rules.specs.Types.{Ids, Item, Tree}
use Rattle.tm_rules.specs.Prelude.{DomainName, Trace, pid_of_line}
use Rattle.tm_log_processes.specs.declared.forest.TraceLine.{TraceLine}
use Rattle.tm_log_processes.specs.Processes.{digits}

-- the trees and lines, and how many records and bytes they are
pub record Grown : Type 0 where
  pub trees : List Tree
  pub lines : List TraceLine
  pub records : ℕ
  pub bytes : ℕ

abbrev pub bare : Grown
bare = record { trees = []; lines = []; records = 0; bytes = 0 }

-- a sum that stays within 64 bits
abbrev pub sum_of : ℕ → ℕ → ℕ
sum_of m n = min (m + n) (2 ^ 64 - 1)

-- Lengths of lines

abbrev pub fork_length : ℕ → ℕ → ℕ
fork_length pid child = 7 + digits pid + digits child

-- eight numbers, each after a space
abbrev pub ids_length : Ids → ℕ
ids_length ids =
    8 + (digits ids.uid + digits ids.euid + digits ids.suid + digits ids.fsuid) + (digits ids.gid + digits ids.egid + digits ids.sgid + digits ids.fsgid)

-- that of a line whose request has this size
abbrev pub line_length : Item → ℕ → ℕ
line_length (Item.Fork pid child) size = fork_length pid child
line_length (Item.Ids pid ids) size = 5 + digits pid + ids_length ids
line_length (Item.Do pid request) size = sum_of size (5 + digits pid)

-- Steps

-- one record more of this length
abbrev pub counted : Grown → ℕ → Grown
counted s size = record s { records = sum_of s.records 1; bytes = sum_of s.bytes size }

-- one line more
abbrev pub new_line : ℕ → Item → TraceLine
new_line tree item = record { tree = tree; children = []; item = item }

unfoldable pub added : Grown → ℕ → Item → ℕ → Grown
added s tree item size = record (counted s (line_length item size)) { lines = s.lines ++ new_line tree item ∷ [] }

-- one child more before a line
abbrev pub with_child : TraceLine → ℕ → TraceLine
with_child line child = record line { children = line.children ++ child ∷ [] }

abbrev pub forked_if : Option TraceLine → Grown → ℕ → ℕ → Grown
forked_if None s place child = s
forked_if (Some line) s place child = record (counted s (fork_length (pid_of_line line.item) child)) { lines = slice_set s.lines place (with_child line child) }

unfoldable pub forked_before : Grown → ℕ → ℕ → Grown
forked_before s place child = forked_if (slice_get s.lines place) s place child

-- one tree more, which is last
abbrev pub new_tree : DomainName → ℕ → Tree
new_tree start pid = record { start = start; pid = pid; records = [] }

unfoldable pub planted : Grown → DomainName → ℕ → Grown × ℕ
planted s start pid = (record s { trees = s.trees ++ new_tree start pid ∷ []; bytes = sum_of s.bytes (sum_of (length start) (7 + digits pid)) }, length s.trees)

-- a record has room whose request has this size: 200,000 lines without five, 4,096 trees without
-- two, 16,777,216 bytes without 9,000
abbrev pub has_room : Grown → ℕ → Bool
has_room s size = nat_le s.records 199995 && nat_le (length s.trees) 4094 && nat_le (sum_of s.bytes size) 16768216

-- The trace

-- a line with the forks before it
abbrev pub items_of : TraceLine → List Item
items_of line = map (Item.Fork (pid_of_line line.item)) line.children ++ line.item ∷ []

-- at the end of its tree
abbrev pub with_items : Tree → List Item → Tree
with_items tree items = record tree { records = tree.records ++ items }

abbrev pub put_if : Option Tree → List Tree → ℕ → List Item → List Tree
put_if None trees t items = trees
put_if (Some tree) trees t items = slice_set trees t (with_items tree items)

unfoldable pub with_line : List Tree → TraceLine → List Tree
with_line trees line = put_if (slice_get trees line.tree) trees line.tree (items_of line)

-- each line goes to its tree, in order
abbrev pub in_trees : List Tree → List TraceLine → Trace
in_trees trees [] = trees
in_trees trees (line ∷ lines) = in_trees (with_line trees line) lines
