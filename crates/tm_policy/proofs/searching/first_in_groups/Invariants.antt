use Rattle.std.proofs.Common.{◌≡◌, drop}
use Rattle.tm_policy.specs.Searching.{found_in, acl_entries}
use Rattle.tm_policy.proofs.searching.first_in_groups.Given as goal

-- what is found first in the groups from here on is found first in all of them
abbrev pub invariant-loop-group : goal.invariant-loop-group
invariant-loop-group g l = found_in l.asked (acl_entries l.lists (drop l.group-index l.members)) ≡ found_in l.asked (acl_entries l.lists l.members)
