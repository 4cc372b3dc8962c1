use Rattle.std.proofs.Common.{◌≡◌, drop}
use Rattle.tm_rules.specs.Prelude.{placed}
use Rattle.tm_policy.specs.Searching.{place_in, found_in}
use Rattle.tm_policy.proofs.scan.ScanListSearch.first_in.Given as goal

-- what is found first from here on is found first of all
abbrev pub invariant-loop-place : goal.invariant-loop-place
invariant-loop-place l = found_in l.asked (placed (place_in l.group) l.place (drop l.place l.entries)) ≡ found_in l.asked (placed (place_in l.group) 0 l.entries)
