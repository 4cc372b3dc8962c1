use Rattle.std.proofs.Common.{◌≡◌, ◌≤◌, ◌-◌}
use Rattle.tm_change_domains.proofs.Places.{first_place, place_from}
use Rattle.tm_change_domains.proofs.learning.permission_place.Given as goal

-- the first permission from here on is the first of all
abbrev pub invariant-loop-place : goal.invariant-loop-place
invariant-loop-place l = (l.place ≤ 16) × (place_from l.entry.perms.bits l.place (16 - l.place) ≡ first_place l.entry.perms.bits)

abbrev pub decreases-loop-place : goal.decreases-loop-place
decreases-loop-place l = 16 - l.place
