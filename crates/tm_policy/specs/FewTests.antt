-- Tests of the lists whose places are written as numbers below 2^32.
use Rattle.std.specs.Prelude.{ℕ, Bool, ◌&&◌, List, length, nat_lt}
use Rattle.std.specs.List.{list_all}
use Rattle.tm_rules.specs.Types.{Entry, Namespace}

-- each place is below 2^32
abbrev pub is_short : ℕ → Bool
is_short n = nat_lt n 4294967296

-- the members of path groups and the entries of each ACL group
abbrev pub has_short_lists : Namespace → Bool
has_short_lists ns =
    is_short (length ns.groups.paths)
    && list_all (λ (group : ℕ × List Entry). is_short (length group.1)) ns.acl_groups
