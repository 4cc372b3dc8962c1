use Rattle.std.proofs.Common.{◌≡◌, drop}
use Rattle.std.specs.List.{list_any}
use Rattle.tm_index.specs.Listing.{holds_at, has_all}
use Rattle.tm_index.proofs.list.any_having.Given as goal

abbrev pub invariant-loop-place : goal.invariant-loop-place
invariant-loop-place l = list_any (holds_at (has_all l.line) l.entries) (drop l.place-index l.places) ≡ list_any (holds_at (has_all l.line) l.entries) l.places
